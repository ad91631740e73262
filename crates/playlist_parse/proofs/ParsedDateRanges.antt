-- Known date ranges, some of which stand again.
use Rattle.std.proofs.Common.{◌≡◌, ℕ, ◌<◌, get_or, zero, suc, List, [], ◌∷◌, ◌++◌, length, take, ap, sym, Some, arith, subst}
use Rattle.std.specs.Prelude.{slice_get}
use Rattle.std.proofs.lemmas.List.{append-nil}
use Rattle.playlist_model.specs.declared.DateRange.{DateRange}
use Rattle.playlist_parse.specs.Inner.ParsedDateRanges.{IsSaidByAttributes, AreSaidByAttributes, HasAttributesAt, Adds}

pub said_later : (one : DateRange) (later list : List DateRange) → list ≡ one ∷ later → AreSaidByAttributes list → AreSaidByAttributes later
said_later one later list is h = (subst AreSaidByAttributes is h).1

said_at : (list : List DateRange) (place : ℕ) (one : DateRange) → AreSaidByAttributes list → slice_get list place ≡ Some one → IsSaidByAttributes one
said_at [] place one h e = absurd (cc)
said_at (x ∷ later) zero one h e = let same : x ≡ one = cc in subst IsSaidByAttributes same h.0
said_at (x ∷ later) (suc place) one h e = said_at later place one h.1 e

pub slice_there : (xs : List DateRange) (i : ℕ) (x : DateRange) → i < length xs → x ≡ get_or xs i x → slice_get xs i ≡ Some x
slice_there [] i x h e = absurd (omega (arith, h))
slice_there (y ∷ ys) zero x h e = ap Some (sym e)
slice_there (y ∷ ys) (suc i) x h e = slice_there ys i x (omega (arith, h)) e

one_more : (list : List DateRange) (place : ℕ) (one : DateRange) → slice_get list place ≡ Some one → take (suc place) list ≡ take place list ++ one ∷ []
one_more [] place one e = absurd (cc)
one_more (x ∷ later) zero one e = let same : x ≡ one = cc in ap (λ y. y ∷ []) same
one_more (x ∷ later) (suc place) one e = ap (λ ys. x ∷ ys) (one_more later place one e)

-- the one that comes next is taken
pub met_next : (old known list now : List DateRange) (place more : ℕ) (rest : List ℕ) → take place old ++ list ≡ now → length list ≡ 0 → AreSaidByAttributes known → take place known ≡ take place old → more ≡ suc place
    → HasAttributesAt known place rest → Adds rest now (take more known ++ list)
met_next old known [] now place more rest view_is none said same is s = grind (arith, said_at, append-nil, one_more)
met_next old known (x ∷ later) now place more rest view_is none said same is s = absurd (omega (arith, none))
