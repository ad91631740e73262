-- How a fault is printed: its code and its name.
use Rattle.std.specs.Prelude.{ℕ, List, codes}
use Rattle.stitcher.specs.declared.fault.StitchFault.{StitchFault}
use Rattle.stitcher.specs.declared.fault.StitchFault.TheVariants.{NumberRange, OutOfMemory}

abbrev pub fault_text : StitchFault → List ℕ
fault_text NumberRange = codes "K1 NumberRange"
fault_text OutOfMemory = codes "K2 OutOfMemory"
