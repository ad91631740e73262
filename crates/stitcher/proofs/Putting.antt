-- What a list comes to when pieces are put after it.
use Rattle.std.proofs.Common.{◌≡◌, Bool, true, false, List, [], ◌∷◌, ◌++◌, refl, ap, sym, subst, ◌∙◌, append_assoc, length, arith}
use Rattle.std.specs.Prelude.{◌&&◌}
use Rattle.std.specs.List.{list_all}
use Rattle.std.proofs.lemmas.List.{append-nil}
use Rattle.std.proofs.lemmas.List.Folds.{list_all-append}
use Rattle.pod_store.specs.Pods.{Ad}
use Rattle.stitcher.specs.Stitched.{Piece, Numbers}
use Rattle.stitcher.specs.Written.{written_segment}
use Rattle.stitcher.specs.StitchedSegments.{item_fits}
use Rattle.stitcher.specs.Inner.Making.{Made, numbers_fit, numbers_after, origin_discontinuity, comes_to, PutsPieces, Passes, pushed, under_ad}

false_and : (a b c : Bool) → a ≡ true → b ≡ true → (a && (b && true)) ≡ true
false_and true true c p q = refl
false_and true false c p q = q
false_and false b c p q = p

-- one piece more, whose numbers fit
pub puts_one : (made : Made) (p : Piece) (n : Numbers) → n ≡ numbers_after made.first made.last p → numbers_fit n ≡ true
    → PutsPieces made (pushed made (written_segment p n) p.instant n (origin_discontinuity p)) (p ∷ [])
puts_one made p n same fits = grind (arith, append_assoc, list_all-append, false_and)

-- ---- a walk over pieces

-- of all the pieces, those of the rest are still to be put
pub record Walks (old new : Made) (all rest : List Piece) : Type 0 where
  pub first : new.first ≡ old.first
  pub comes : (later : List Piece) → comes_to old (all ++ later) ≡ comes_to new (rest ++ later)
  pub fit : list_all item_fits old.items ≡ true → list_all item_fits new.items ≡ true

pub walks_none : (made : Made) (all : List Piece) → Walks made made all all
walks_none made all = record { first = refl; comes = λ later. refl; fit = λ h. h }

pub walks_under : (old begun : Made) (ad : Ad) (all : List Piece) → begun ≡ under_ad old ad → Walks old begun all all
walks_under old begun ad all e = subst (λ (made : Made). Walks old made all all) (sym e) (record { first = refl; comes = λ later. refl; fit = λ h. h })

pub walks_on : (old mid new : Made) (all pieces rest : List Piece) → Walks old mid all (pieces ++ rest) → PutsPieces mid new pieces → Walks old new all rest
walks_on old mid new all pieces rest w p = grind (arith, append_assoc)

pub walked : (old new : Made) (all : List Piece) → Walks old new all [] → PutsPieces old new all
walked old new all w = record { first = w.first; comes = w.comes; fit = w.fit }

pub passes_there : (old mid : Made) (all pieces rest : List Piece) → Walks old mid all (pieces ++ rest) → Passes mid pieces → Passes old all
passes_there old mid all pieces rest w p later = grind (arith, append_assoc)

-- ---- a whole walk

pub comes_whole : (old new : Made) (all : List Piece) → Walks old new all [] → comes_to old all ≡ new.items
comes_whole old new all w = ap (comes_to old) (sym (append-nil all)) ∙ (w.comes [] ∙ append-nil new.items)

pub passes_whole : (old mid : Made) (all pieces rest : List Piece) → Walks old mid all (pieces ++ rest) → Passes mid pieces → list_all item_fits (comes_to old all) ≡ false
passes_whole old mid all pieces rest w p = ap (λ t. list_all item_fits (comes_to old t)) (sym (append-nil all)) ∙ passes_there old mid all pieces rest w p []

pub none_left : {A : Type 0} (xs : List A) → length xs ≡ 0 → xs ≡ []
none_left [] h = refl
none_left (x ∷ xs) h = absurd (omega arith)
