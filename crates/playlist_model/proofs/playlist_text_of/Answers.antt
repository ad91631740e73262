use Rattle.std.proofs.Common.{◌≡◌, ℕ, List, Bool, true, false, refl}
use Rattle.std.specs.Str.{IsUtf8, is_utf8}
use Rattle.std.proofs.lemmas.Str.{IsUtf8-from_is_utf8, is_utf8-from_IsUtf8}
use Rattle.playlist_model.proofs.playlist_text_of.Goals as goal

not_utf8 : (bs : List ℕ) (b : Bool) → is_utf8 bs ≡ b → ¬ IsUtf8 bs → is_utf8 bs ≡ false
not_utf8 bs true e h = absurd (h (IsUtf8-from_is_utf8 bs e))
not_utf8 bs false e h = e

pub returns-in-Ok : goal.returns-in-Ok
returns-in-Ok c = (is_utf8-from_IsUtf8 _ c.in-Ok.ensures.cases.1, c.in-Ok.ensures.cases.0)

pub returns-in-Err : goal.returns-in-Err
returns-in-Err c = (not_utf8 _ _ refl c.in-Err.ensures.cases.0, refl)
