-- How a connection's fault is told.
use Rattle.std.specs.Prelude.{ℕ, List, codes}
use Rattle.http_edge.specs.declared.serving.EdgeFault.{EdgeFault}
use Rattle.http_edge.specs.declared.serving.EdgeFault.TheVariants as edge

abbrev pub edge_fault_text : EdgeFault → List ℕ
edge_fault_text edge.Read = codes "E1 Read"
edge_fault_text edge.Write = codes "E2 Write"
edge_fault_text edge.TooManyReads = codes "E3 TooManyReads"
edge_fault_text edge.Ended = codes "E4 Ended"
edge_fault_text edge.OutOfMemory = codes "E5 OutOfMemory"
