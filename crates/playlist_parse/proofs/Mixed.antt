-- A test of segments with others among them.
use Rattle.std.proofs.Common.{◌≡◌, ◌∙◌, ℕ, Bool, true, false, List, ◌++◌, take, drop, refl, ap, sym}
use Rattle.std.specs.Prelude.{◌&&◌, ◌||◌}
use Rattle.std.specs.List.{list_any, list_all}
use Rattle.std.proofs.lemmas.List.{take-append-drop}
use Rattle.std.proofs.lemmas.List.Folds.{list_any-append, list_all-append}
use Rattle.playlist_model.specs.Segments.{Segment}
use Rattle.playlist_kept.specs.Kept.{with_taken}

or_between : (a b c : Bool) → (a || (b || c)) ≡ ((a || c) || b)
or_between true b c = refl
or_between false true true = refl
or_between false true false = refl
or_between false false c = or_false c
  where
    or_false : (c : Bool) → c ≡ (c || false)
    or_false true = refl
    or_false false = refl

and_between : (a b c : Bool) → (a && (b && c)) ≡ ((a && c) && b)
and_between false b c = refl
and_between true true c = and_true c
  where
    and_true : (c : Bool) → c ≡ (c && true)
    and_true true = refl
    and_true false = refl
and_between true false true = refl
and_between true false false = refl

pub any_with_taken : (p : Segment → Bool) (front : ℕ) (read taken : List Segment) → list_any p (with_taken front read taken) ≡ (list_any p read || list_any p taken)
any_with_taken p front read taken =
    list_any-append p (take front read) (taken ++ drop front read) ∙ ap (λ b. list_any p (take front read) || b) (list_any-append p taken (drop front read))
    ∙ or_between (list_any p (take front read)) (list_any p taken) (list_any p (drop front read))
    ∙ ap (λ b. b || list_any p taken) (sym (list_any-append p (take front read) (drop front read)) ∙ ap (list_any p) (take-append-drop front read))

pub all_with_taken : (p : Segment → Bool) (front : ℕ) (read taken : List Segment) → list_all p (with_taken front read taken) ≡ (list_all p read && list_all p taken)
all_with_taken p front read taken =
    list_all-append p (take front read) (taken ++ drop front read) ∙ ap (λ b. list_all p (take front read) && b) (list_all-append p taken (drop front read))
    ∙ and_between (list_all p (take front read)) (list_all p taken) (list_all p (drop front read))
    ∙ ap (λ b. b && list_all p taken) (sym (list_all-append p (take front read) (drop front read)) ∙ ap (list_all p) (take-append-drop front read))
