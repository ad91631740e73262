-- How a refused refresh is told.
use Rattle.std.specs.Prelude.{ℕ, List, ◌++◌, codes, decimal}
use Rattle.playlist_model.specs.FaultTexts as playlist
use Rattle.channel_spec.specs.declared.fault.RefreshFault.{RefreshFault}
use Rattle.channel_spec.specs.declared.fault.RefreshFault.TheVariants as fault

-- the code and the name, and the line of a playlist that can't be read or the number of the segment that changed
abbrev pub refresh_fault_text : RefreshFault → List ℕ
refresh_fault_text (fault.Playlist unread) = playlist.fault_text unread
refresh_fault_text fault.VersionChanged = codes "N1 VersionChanged"
refresh_fault_text fault.TargetChanged = codes "N2 TargetChanged"
refresh_fault_text fault.TypeChanged = codes "N3 TypeChanged"
refresh_fault_text fault.MapsChanged = codes "N4 MapsChanged"
refresh_fault_text fault.Back = codes "N5 Back"
refresh_fault_text fault.Gap = codes "N6 Gap"
refresh_fault_text fault.Shrunk = codes "N7 Shrunk"
refresh_fault_text (fault.Changed number) = codes "N8 Changed " ++ decimal number
refresh_fault_text fault.Ended = codes "N9 Ended"
refresh_fault_text fault.NumberRange = codes "N10 NumberRange"
refresh_fault_text fault.OutOfMemory = codes "N11 OutOfMemory"
