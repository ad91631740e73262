-- How a fault is printed: its code and name, then its line if it stands on one.
use Rattle.std.specs.Prelude.{ℕ, ◌==◌, List, ◌++◌, codes, decimal, if◌then◌else◌}
use Rattle.playlist_model.specs.declared.FaultKind.{FaultKind}
use Rattle.playlist_model.specs.declared.FaultKind.TheVariants as fault
use Rattle.playlist_model.specs.declared.PlaylistFault.{PlaylistFault}

abbrev pub kind_text : FaultKind → List ℕ
kind_text fault.NotUtf8 = codes "P1 NotUtf8"
kind_text fault.TooLong = codes "P2 TooLong"
kind_text fault.NoHeader = codes "P3 NoHeader"
kind_text fault.Control = codes "P4 Control"
kind_text fault.BadVersion = codes "P5 BadVersion"
kind_text fault.Version = codes "P6 Version"
kind_text fault.Repeated = codes "P7 Repeated"
kind_text fault.Misplaced = codes "P8 Misplaced"
kind_text fault.BadValue = codes "P9 BadValue"
kind_text fault.BadDuration = codes "P10 BadDuration"
kind_text fault.BadAttributes = codes "P11 BadAttributes"
kind_text fault.MissingAttribute = codes "P12 MissingAttribute"
kind_text fault.BadRange = codes "P13 BadRange"
kind_text fault.RangeNoStart = codes "P14 RangeNoStart"
kind_text fault.BadTime = codes "P15 BadTime"
kind_text fault.BadUri = codes "P16 BadUri"
kind_text fault.NoDuration = codes "P17 NoDuration"
kind_text fault.NoTarget = codes "P18 NoTarget"
kind_text fault.MasterPlaylist = codes "P19 MasterPlaylist"
kind_text fault.IFramesOnly = codes "P20 IFramesOnly"
kind_text fault.NoSegments = codes "P21 NoSegments"
kind_text fault.MixedMaps = codes "P22 MixedMaps"
kind_text fault.MapWithoutIv = codes "P23 MapWithoutIv"
kind_text fault.TooMany = codes "P24 TooMany"
kind_text fault.OutOfMemory = codes "P25 OutOfMemory"

abbrev pub fault_text : PlaylistFault → List ℕ
fault_text fault = if fault.line == 0 then kind_text fault.kind else kind_text fault.kind ++ (codes " line " ++ decimal fault.line)
