-- A test of a list that is turned round.
use mathlib.Core.List.{reverse_aux}
use Rattle.std.proofs.Common.{◌≡◌, Bool, true, false, List, [], ◌∷◌, reverse, refl, ◌∙◌}
use Rattle.std.specs.Prelude.{◌&&◌}
use Rattle.std.specs.List.{list_all}

shuffled : (a b c : Bool) → (b && (a && c)) ≡ ((a && b) && c)
shuffled true true c = refl
shuffled true false c = refl
shuffled false true c = refl
shuffled false false c = refl

list_all_aux : {A : Type 0} (test : A → Bool) (xs acc : List A) → list_all test (reverse_aux xs acc) ≡ (list_all test xs && list_all test acc)
list_all_aux test [] acc = refl
list_all_aux test (x ∷ xs) acc = list_all_aux test xs (x ∷ acc) ∙ shuffled (test x) (list_all test xs) (list_all test acc)

and_true : (b : Bool) → (b && true) ≡ b
and_true true = refl
and_true false = refl

pub list_all-reverse : {A : Type 0} (test : A → Bool) (xs : List A) → list_all test (reverse xs) ≡ list_all test xs
list_all-reverse test xs = list_all_aux test xs [] ∙ and_true (list_all test xs)
