-- How it is told why a channel can't be made.
use Rattle.std.specs.Prelude.{ℕ, List, codes}
use Rattle.live_channel.specs.declared.channel.ChannelFault.{ChannelFault}
use Rattle.live_channel.specs.declared.channel.ChannelFault.TheVariants.{BadBase, BadTolerance, OutOfMemory}

abbrev pub channel_fault_text : ChannelFault → List ℕ
channel_fault_text BadBase = codes "C1 BadBase"
channel_fault_text BadTolerance = codes "C2 BadTolerance"
channel_fault_text OutOfMemory = codes "C3 OutOfMemory"
