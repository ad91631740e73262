-- The part of a pod that is shown.
use Rattle.std.proofs.Common.{◌≡◌, ℕ, ◌-◌, Bool, true, false, cond, not, ◌&&◌, ◌||◌, zero, suc, List, [], ◌∷◌, ◌++◌, refl, ap, sym, ◌∙◌, append_assoc, drop, arith}
use Rattle.std.specs.Prelude.{nat_le}
use Rattle.stitcher.specs.Stitched.{Piece}
use Rattle.stitcher.specs.Paced.{due}
use Rattle.stitcher.specs.declared.making.Part.{Part}
use Rattle.stitcher.specs.Inner.Making.{is_nothing, stitched_part_shows_next, part_here, part_after_one, pieces_in_part, stitched_part_after, whole_from}

pub part_append : (part : Part) (xs ys : List Piece) → pieces_in_part part (xs ++ ys) ≡ pieces_in_part part xs ++ pieces_in_part (stitched_part_after part xs) ys
part_append part [] ys = refl
part_append part (p ∷ xs) ys =
    let next = part_after_one part p.segment.duration in
    ap (λ t. part_here part p ++ t) (part_append next xs ys) ∙ sym (append_assoc (part_here part p) (pieces_in_part next xs) (pieces_in_part (stitched_part_after next xs) ys))

abbrev with_parts : ℕ → Bool → ℕ → Bool → Part
with_parts skip whole left done = record { skip = skip; whole = whole; left = left; done = done }

-- nothing more
none_of : (whole : Bool) (left : ℕ) (pieces : List Piece) → pieces_in_part (with_parts 0 whole left true) pieces ≡ []
none_of whole left [] = refl
none_of whole left (p ∷ pieces) = none_of whole (left - p.segment.duration) pieces

-- once no more is shown, nothing is
pub done_of : (part : Part) (pieces : List Piece) → part.done ≡ true → pieces_in_part part pieces ≡ []
done_of part [] e = refl
done_of part (p ∷ pieces) e =
    ap (λ t. t ++ pieces_in_part (part_after_one part p.segment.duration) pieces) (ap (λ b. cond (is_nothing part.skip && not b) (p ∷ []) []) e ∙ hidden (is_nothing part.skip))
    ∙ done_of (part_after_one part p.segment.duration) pieces (stays (is_nothing part.skip))
  where
    hidden : (b : Bool) → ◌≡◌ {A = List Piece} (cond (b && false) (p ∷ []) []) []
    hidden true = refl
    hidden false = refl

    stays : (b : Bool)
        → (cond b (with_parts 0 part.whole (part.left - p.segment.duration) (part.done || (not part.whole && nat_le part.left p.segment.duration))) (with_parts (part.skip - 1) part.whole part.left part.done)).done ≡ true
    stays true = ap (λ d. d || (not part.whole && nat_le part.left p.segment.duration)) e
    stays false = e

-- all of them
all_of : (left : ℕ) (pieces : List Piece) → pieces_in_part (with_parts 0 true left false) pieces ≡ pieces
all_of left [] = refl
all_of left (p ∷ pieces) = ap (λ t. p ∷ t) (all_of (left - p.segment.duration) pieces)

pub due_is_part : (length : ℕ) (pieces : List Piece) → pieces_in_part (with_parts 0 false length false) pieces ≡ due length pieces
due_is_part length [] = refl
due_is_part length (p ∷ pieces) = grind (arith, none_of, due_is_part (length - p.segment.duration) pieces)

rest_of : (skip left : ℕ) (pieces : List Piece) → pieces_in_part (with_parts skip true left false) pieces ≡ drop skip pieces
rest_of zero left pieces = all_of left pieces
rest_of (suc skip) left [] = refl
rest_of (suc skip) left (p ∷ pieces) = grind (arith, rest_of skip left pieces)

pub rest_is_part : (place : ℕ) (pieces : List Piece) → pieces_in_part (whole_from place) pieces ≡ drop place pieces
rest_is_part place pieces = rest_of place 0 pieces

pub whole_is_part : (pieces : List Piece) → pieces_in_part (whole_from 0) pieces ≡ pieces
whole_is_part pieces = all_of 0 pieces

-- ---- one piece

pub is_here : (part : Part) (p : Piece) → stitched_part_shows_next part ≡ true → p ∷ [] ≡ part_here part p
is_here part p e = sym (ap (λ b. cond b (p ∷ []) []) e)
