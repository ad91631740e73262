-- What a call adds at the end of a text.
use Rattle.std.specs.Prelude.{◌≡◌, List, ℕ, ◌++◌, Result, String, string_bytes, OnOk}
use Rattle.std.specs.declared.alloc.Global.{Global}

-- if the call succeeds, the text has grown by these bytes at its end
abbrev pub Appends : {E : Type 0} → Result (Unit {0}) E → String Global → String Global → List ℕ → Type 0
Appends result old new added = OnOk result (string_bytes new ≡ string_bytes old ++ added)
