-- What proofs and inner functions say with the definitions of `Answers`.
use Rattle.std.specs.Prelude.{ℕ}
use Rattle.playlist_model.specs.declared.FaultKind.{FaultKind}
use Rattle.playlist_model.specs.declared.FaultKind.TheVariants.{OutOfMemory}
use Rattle.playlist_model.specs.Reading.{Fault}

abbrev pub line_of_fault : FaultKind → ℕ → ℕ
line_of_fault OutOfMemory line = 0
line_of_fault _ line = line

abbrev pub fault_at_line : FaultKind → ℕ → Fault
fault_at_line kind line = record { kind = kind; line = line_of_fault kind line }
