-- Why a refresh that can't be read is refused.
use Rattle.std.specs.Prelude.{Bool, true, false, if◌then◌else◌}
use Rattle.playlist_model.specs.declared.FaultKind.{FaultKind}
use Rattle.playlist_model.specs.declared.FaultKind.TheVariants.{OutOfMemory as NoMemory}
use Rattle.playlist_model.specs.declared.PlaylistFault.{PlaylistFault}
use Rattle.channel_spec.specs.declared.fault.RefreshFault.{RefreshFault}
use Rattle.channel_spec.specs.declared.fault.RefreshFault.TheVariants.{Playlist as Unreadable, OutOfMemory}

abbrev pub is_out_of_memory_kind : FaultKind → Bool
is_out_of_memory_kind NoMemory = true
is_out_of_memory_kind _ = false

-- for the fault of its text, unless an allocation failed
abbrev pub fault_of_reading : PlaylistFault → RefreshFault
fault_of_reading fault = if is_out_of_memory_kind fault.kind then OutOfMemory else Unreadable fault
