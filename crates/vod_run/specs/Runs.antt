-- What a run says of the end of its input.
use Rattle.std.specs.Prelude.{Result, Ok, Err}
use Rattle.vod_run.specs.declared.fault.VodFault.{VodFault}
use Rattle.vod_run.specs.declared.fault.VodFault.TheVariants.{Playlist, NumberRange, Write}

-- if a run came to the end of its input: it wrote, or the fault is one of what was read, or of writing
abbrev pub IfAtEnd : VodFault → Type 0 → Type 0
IfAtEnd (Playlist fault) P = P
IfAtEnd NumberRange P = P
IfAtEnd Write P = P
IfAtEnd _ P = Unit {0}

abbrev pub OnEnd : {A : Type 0} → Result A VodFault → Type 0 → Type 0
OnEnd (Ok x) P = P
OnEnd (Err e) P = IfAtEnd e P
