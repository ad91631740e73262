-- The faults of giving.
use Rattle.std.specs.Prelude.{◌≡◌, ◌⊎◌}
use Rattle.http_edge.specs.declared.serving.EdgeFault.{EdgeFault}
use Rattle.http_edge.specs.declared.serving.EdgeFault.TheVariants.{TooManyReads, OutOfMemory}

-- no fault of a socket: as many pieces came as may, or an allocation failed
abbrev pub IsFaultOfGiving : EdgeFault → Type 0
IsFaultOfGiving fault = (fault ≡ TooManyReads) ⊎ (fault ≡ OutOfMemory)
