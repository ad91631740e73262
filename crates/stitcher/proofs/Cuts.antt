-- Stretches that are passed over.
use Rattle.std.proofs.Common.{◌≡◌, ℕ, zero, suc, ◌+◌, ◌-◌, ◌≤◌, Bool, true, false, cond, List, [], ◌∷◌, ◌++◌, map, length, drop, refl, ap, sym, ◌∙◌, subst, arith}
use Rattle.std.proofs.lemmas.List.{append-nil, map-append, drop_at, drop-drop}
use Rattle.std.specs.Prelude.{nat_le}
use Rattle.std.specs.List.{list_all}
use Rattle.std.proofs.lemmas.Bool.{and_parts, leb-true}
use Rattle.std.proofs.lemmas.List.Folds.{list_all-append}
use Rattle.stitcher.specs.StitchedSegments.{item_fits}
use Rattle.stitcher.specs.Stretches.{stretch_items, stretches_items}
use Rattle.stitcher.specs.declared.stitched_list.Stretch.{Stretch}
use Rattle.stitcher.specs.Inner.Cuts.{stretches_within, items_left_from_stretches}
use Rattle.stitcher.proofs.Cursors.{length_stretch}
use Rattle.stitcher.specs.declared.OutSegment.{OutSegment}

-- a stretch is passed over
pub drop_over : (count items : ℕ) (a b : List OutSegment) → items ≡ length a → items ≤ count → drop (count - items) b ≡ drop count (a ++ b)
drop_over count items a b e h =
    let sum : length a + (count - items) ≡ count = omega (arith, e, h) in
    ap (drop (count - items)) (sym (drop_at a b (length a) refl)) ∙ (drop-drop (count - items) (length a) (a ++ b) ∙ ap (λ n. drop n (a ++ b)) sum)

drops_by : (count : ℕ) (s : Stretch) (later : List Stretch) → drop (items_left_from_stretches (count - length s.ads - length s.kept.now) later) (stretches_items (drop (stretches_within (count - length s.ads - length s.kept.now) later) later)) ≡ drop (count - length s.ads - length s.kept.now) (stretches_items later)
    → (b : Bool) → nat_le (length s.ads + length s.kept.now) count ≡ b
    → drop (cond b (items_left_from_stretches (count - length s.ads - length s.kept.now) later) count) (stretches_items (drop (cond b (stretches_within (count - length s.ads - length s.kept.now) later + 1) 0) (s ∷ later))) ≡ drop count (stretches_items (s ∷ later))
drops_by count s later h false e = refl
drops_by count s later h true e =
    let n = stretches_within (count - length s.ads - length s.kept.now) later in
    let within : length s.ads + length s.kept.now ≤ count = leb-true _ _ e in
    let long = length_stretch s in
    let same : count - length s.ads - length s.kept.now ≡ count - length (stretch_items s) = omega (arith, long) in
    let next : n + 1 ≡ suc n = omega arith in
    ap (λ k. drop (items_left_from_stretches (count - length s.ads - length s.kept.now) later) (stretches_items (drop k (s ∷ later)))) next
    ∙ (h ∙ (ap (λ k. drop k (stretches_items later)) same
    ∙ drop_over count (length (stretch_items s)) (stretch_items s) (stretches_items later) refl (omega (arith, long, within))))

pub from_drops : (count : ℕ) (ss : List Stretch) → drop (items_left_from_stretches count ss) (stretches_items (drop (stretches_within count ss) ss)) ≡ drop count (stretches_items ss)
from_drops count [] = refl
from_drops count (s ∷ later) = drops_by count s later (from_drops (count - length s.ads - length s.kept.now) later) (nat_le (length s.ads + length s.kept.now) count) refl

-- the later ones of stretches whose items fit
pub from_fits : (n : ℕ) (ss : List Stretch) → list_all item_fits (stretches_items ss) ≡ true → list_all item_fits (stretches_items (drop n ss)) ≡ true
from_fits zero ss h = h
from_fits (suc n) [] h = h
from_fits (suc n) (s ∷ later) h = from_fits n later (and_parts _ _ (sym (list_all-append item_fits (stretch_items s) (stretches_items later)) ∙ h)).1
