-- Which members an object has.
use Rattle.std.specs.Prelude.{Bool, ◌&&◌, codes, is_none, is_some}
use Rattle.serde_json.specs.Data.{Data}
use Rattle.serde_json.specs.Find.{get}

-- it has `breaks`, and neither `withdraw` nor `fallback`
abbrev pub says_breaks_alone : Data → Bool
says_breaks_alone d = is_some (get (codes "breaks") d) && is_none (get (codes "withdraw") d) && is_none (get (codes "fallback") d)
