-- Lines are slices of their text.
use Rattle.std.proofs.Common.{◌≡◌, ℕ, ◌+◌, ◌-◌, ◌≤◌, Bool, true, false, cond, List, [], ◌∷◌, ◌++◌, map, take, length, refl, ap, ◌∙◌, arith, subst, length-append, length-take, append_assoc}
use Rattle.std.specs.Prelude.{slice_range, ◌==◌, slice_index}
use Rattle.std.specs.List.{slice_split, join_with_byte}
use Rattle.std.specs.Str.Lines.{lines_of_parts, strip_carriage_return}
use Rattle.std.proofs.lemmas.List.Splits.{join_with_byte-slice_split}
use Rattle.std.proofs.lemmas.List.{take-append-le, drop-append-le, take_all, drop_all}
use Rattle.playlist_model.specs.Lines.{placed_from}
use Rattle.playlist_model.specs.Laws.{AreSlices, LinesAreSlices}

abbrev line_of : ℕ × List ℕ → List ℕ
line_of line = line.1

same_cond : (b : Bool) (start : ℕ) (piece : List ℕ) → map line_of (cond b [] ((start, piece) ∷ [])) ≡ cond b [] (piece ∷ [])
same_cond true start piece = refl
same_cond false start piece = refl

same_lines : (start : ℕ) (pieces : List (List ℕ)) → map line_of (placed_from start pieces) ≡ lines_of_parts pieces
same_lines start [] = refl
same_lines start (piece ∷ []) = same_cond (length piece == 0) start piece
same_lines start (piece ∷ next ∷ later) = ap (λ xs. strip_carriage_return piece ∷ xs) (same_lines (start + length piece + 1) (next ∷ later))

strip_step : (b : Bool) (n : ℕ) (l : List ℕ) → (n ≤ length l) → take (length (cond b (take n l) l)) l ≡ cond b (take n l) l
strip_step b n l h = grind (arith, length-take, take_all)

strip_short : (b : Bool) (n : ℕ) (l : List ℕ) → length (cond b (take n l) l) ≤ length l
strip_short true n l = omega (arith, length-take n l)
strip_short false n l = omega arith

-- a front of a piece, in its place
in_place : (front piece rest line : List ℕ) → take (length line) piece ≡ line → length line ≤ length piece
    → slice_range (front ++ (piece ++ rest)) (length front) (length front + length line) ≡ line
in_place front piece rest line e h = grind (arith, drop-append-le, drop_all, take-append-le)

abbrev joined : List (List ℕ) → List ℕ
joined pieces = join_with_byte 10 pieces

last_slice : (b : Bool) (front piece : List ℕ) → AreSlices (front ++ piece) (cond b [] ((length front, piece) ∷ []))
last_slice true front piece = tt
last_slice false front piece = (
  subst (λ xs. slice_range (front ++ xs) (length front) (length front + length piece) ≡ piece) (append_nil piece)
      (in_place front piece [] piece (take_all (length piece) piece (omega arith)) (omega arith)),
  tt,
)
  where
    append_nil : (xs : List ℕ) → xs ++ [] ≡ xs
    append_nil [] = refl
    append_nil (x ∷ xs) = ap (λ ys. x ∷ ys) (append_nil xs)

are_slices : (front : List ℕ) (pieces : List (List ℕ)) → AreSlices (front ++ joined pieces) (placed_from (length front) pieces)
are_slices front [] = tt
are_slices front (piece ∷ []) = last_slice (length piece == 0) front piece
are_slices front (piece ∷ next ∷ later) =
    let test = slice_index piece (length piece - 1) == 13 in
    let fits : length piece - 1 ≤ length piece = omega arith in
    let here = in_place front piece (10 ∷ joined (next ∷ later)) (strip_carriage_return piece) (strip_step test (length piece - 1) piece fits) (strip_short test (length piece - 1) piece) in
    let longer = front ++ (piece ++ 10 ∷ []) in
    let start : length longer ≡ length front + length piece + 1 = length-append front (piece ++ 10 ∷ []) ∙ omega (arith, length-append piece (10 ∷ [])) in
    let text : longer ++ joined (next ∷ later) ≡ front ++ (piece ++ (10 ∷ joined (next ∷ later))) = append_assoc front (piece ++ 10 ∷ []) (joined (next ∷ later)) ∙ ap (λ xs. front ++ xs) (append_assoc piece (10 ∷ []) (joined (next ∷ later))) in
    let rest = are_slices longer (next ∷ later) in (
      here,
      subst (λ n. AreSlices (front ++ (piece ++ (10 ∷ joined (next ∷ later)))) (placed_from n (next ∷ later))) start
          (subst (λ xs. AreSlices xs (placed_from (length longer) (next ∷ later))) text rest),
    )

pub lines_are_slices : LinesAreSlices
lines_are_slices text =
    let pieces = slice_split (λ b. b == 10) text in
    (same_lines 0 pieces, subst (λ xs. AreSlices xs (placed_from 0 pieces)) (join_with_byte-slice_split 10 text) (are_slices [] pieces))
