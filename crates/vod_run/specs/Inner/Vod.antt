-- What proofs and inner functions say with the definitions of `Vod`.
use Rattle.vod_run.specs.declared.fault.VodFault.{VodFault}
use Rattle.vod_run.specs.declared.fault.VodFault.TheVariants.{Read, TooManyReads, OutOfMemory}

-- a fault that reading an input can have
abbrev pub IsOfReading : VodFault → Type 0
IsOfReading Read = Unit {0}
IsOfReading TooManyReads = Unit {0}
IsOfReading OutOfMemory = Unit {0}
IsOfReading _ = ⊥
