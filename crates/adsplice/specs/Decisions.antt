-- What `vod` decides by.
use Rattle.std.specs.Prelude.{Option, Some, None, Result, Ok, Err}
use Rattle.std.specs.IoError.{error_kind}
use Rattle.std.specs.declared.io.Error.{Error}
use Rattle.std.specs.declared.io.ErrorKind.{ErrorKind}
use Rattle.std.specs.declared.io.ErrorKind.TheVariants as kind
use Rattle.adsplice.specs.declared.decisions.DecisionsFault.{DecisionsFault}
use Rattle.adsplice.specs.declared.decisions.DecisionsFault.TheVariants.{CannotRead, OutOfMemory}

abbrev pub fault_of_program_file : ErrorKind → DecisionsFault
fault_of_program_file kind.OutOfMemory = OutOfMemory
fault_of_program_file _ = CannotRead

-- no file if none is named; else its bytes, or why they can't be read
abbrev pub bytes_of_program_file : {A : Type 0} → Option (Result A Error) → Result (Option A) DecisionsFault
bytes_of_program_file None = Ok None
bytes_of_program_file (Some (Ok bytes)) = Ok (Some bytes)
bytes_of_program_file (Some (Err e)) = Err (fault_of_program_file (error_kind e))
