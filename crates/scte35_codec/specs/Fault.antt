-- How a fault is printed.
use Rattle.std.specs.Prelude.{ℕ, List, codes}
use Rattle.scte35_codec.specs.declared.fault.SpliceFault.{SpliceFault}
use Rattle.scte35_codec.specs.declared.fault.SpliceFault.TheVariants.{NotHex, TooShort, TableId, Length, Protocol, Encrypted, CommandLength, OutOfMemory, TooLarge}

-- a fault's code and its name
abbrev pub fault_text : SpliceFault → List ℕ
fault_text NotHex = codes "S1 NotHex"
fault_text TooShort = codes "S2 TooShort"
fault_text TableId = codes "S3 TableId"
fault_text Length = codes "S4 Length"
fault_text Protocol = codes "S5 Protocol"
fault_text Encrypted = codes "S6 Encrypted"
fault_text CommandLength = codes "S7 CommandLength"
fault_text OutOfMemory = codes "S8 OutOfMemory"
fault_text TooLarge = codes "S9 TooLarge"
