-- How a fault of the program is printed.
use Rattle.std.specs.Prelude.{ℕ, List, codes}
use Rattle.playlist_model.specs.FaultTexts.{fault_text}
use Rattle.pod_store.specs.FaultTexts as decisions
use Rattle.channel_spec.specs.declared.fault.RefreshFault.TheVariants as refused
use Rattle.channel_spec.specs.FaultTexts.{refresh_fault_text}
use Rattle.live_channel.specs.declared.channel.ChannelFault.TheVariants as made
use Rattle.live_channel.specs.FaultTexts.{channel_fault_text}
use Rattle.vod_run.specs.declared.fault.VodFault.{VodFault}
use Rattle.vod_run.specs.declared.fault.VodFault.TheVariants.{BadBase, Decision, Playlist, NumberRange, Read, TooManyReads, Write, OutOfMemory}

abbrev pub vod_fault_text : VodFault → List ℕ
vod_fault_text BadBase = channel_fault_text made.BadBase
vod_fault_text (Decision fault) = decisions.fault_text fault
vod_fault_text (Playlist fault) = fault_text fault
vod_fault_text NumberRange = refresh_fault_text refused.NumberRange
vod_fault_text Read = codes "cannot read input"
vod_fault_text TooManyReads = codes "E3 TooManyReads"
vod_fault_text Write = codes "cannot write output"
vod_fault_text OutOfMemory = codes "E5 OutOfMemory"
