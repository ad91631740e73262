-- How a fault is printed: its code and name, then its place so far as it stands in one.
use Rattle.std.specs.Prelude.{ℕ, List, [], ◌++◌, codes, decimal, Option, Some, None}
use Rattle.pod_store.specs.declared.fault.DecisionKind.{DecisionKind}
use Rattle.pod_store.specs.declared.fault.DecisionKind.TheVariants as fault
use Rattle.pod_store.specs.declared.fault.DecisionFault.{DecisionFault}

abbrev pub kind_text : DecisionKind → List ℕ
kind_text fault.NotJson = codes "J1 NotJson"
kind_text fault.Shape = codes "J2 Shape"
kind_text fault.BadUri = codes "J3 BadUri"
kind_text fault.BadDuration = codes "J4 BadDuration"
kind_text fault.BadKey = codes "J5 BadKey"
kind_text fault.EmptyPod = codes "J6 EmptyPod"
kind_text fault.TooMany = codes "J7 TooMany"
kind_text fault.OutOfMemory = codes "J8 OutOfMemory"
kind_text fault.Used = codes "J9 Used"
kind_text fault.Full = codes "J10 Full"
kind_text fault.Unknown = codes "J11 Unknown"

-- a word and a number, if there is one
abbrev pub part_text : List ℕ → Option ℕ → List ℕ
part_text word None = []
part_text word (Some n) = word ++ decimal n

abbrev pub fault_text : DecisionFault → List ℕ
fault_text fault =
    kind_text fault.kind ++ part_text (codes " break ") fault.place.pod ++ part_text (codes " ad ") fault.place.ad
    ++ part_text (codes " segment ") fault.place.segment
