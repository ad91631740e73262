-- Lines and their places.
use Rattle.std.proofs.Common.{◌≡◌, ℕ, ◌+◌, ◌<◌, ◌≤◌, Bool, true, false, cond, not, List, [], ◌∷◌, map, length, refl, ap, sym, ◌∙◌, arith, length-take, length-drop}
use Rattle.std.specs.Prelude.{◌==◌}
use Rattle.std.specs.List.{slice_split, position_or_len, before_first, after_first, onto_first}
use Rattle.std.specs.Str.Lines.{strip_carriage_return, lines}
use Rattle.std.proofs.lemmas.List.Splits.{slice_split_first, length-slice_split}
use Rattle.std.proofs.lemmas.List.Sums.{count_by-le-length}
use Rattle.attr_list.specs.Attributes.{slices_at}
use Rattle.playlist_model.specs.Laws.{AreSlices}
use Rattle.playlist_model.proofs.LineLaws.{lines_are_slices}
use Rattle.playlist_model.specs.Lines.{placed_from, placed_lines}
use Rattle.playlist_parse.specs.LineViews.{is_feed, with_end, line_span, lines_from}
use Rattle.playlist_parse.specs.Inner.LineViews.{line_text}
use Rattle.playlist_parse.proofs.LineLemmas.{map_twice}

-- ---- lines from a place on

one_more : (start : ℕ) (piece : List ℕ) (pieces : List (List ℕ)) → 1 ≤ length pieces
    → placed_from start (piece ∷ pieces) ≡ (start, strip_carriage_return piece) ∷ placed_from (start + length piece + 1) pieces
one_more start piece [] h = absurd (omega (arith, h))
one_more start piece (next ∷ later) h = refl

-- a line, and those after its line feed
pub next_line : (start : ℕ) (text : List ℕ) → position_or_len is_feed text < length text
    → lines_from start text ≡ with_end (start, strip_carriage_return (before_first is_feed text)) ∷ lines_from (start + length (before_first is_feed text) + 1) (after_first is_feed text)
next_line start text h = grind (arith, slice_split_first, one_more, length-slice_split)

-- the same, over what was found of the first line
pub first_line : (start : ℕ) (rest piece later line : List ℕ) (view : (ℕ × ℕ) × List ℕ) → position_or_len is_feed rest < length rest
    → piece ≡ before_first is_feed rest → later ≡ after_first is_feed rest → line ≡ strip_carriage_return piece → view ≡ with_end (start, line)
    → lines_from start rest ≡ view ∷ lines_from (start + length piece + 1) later
first_line start rest piece later line view some piece_is later_is line_is view_is = grind (arith, next_line)

whole_step : (x : ℕ) (xs : List ℕ) (n : ℕ) (b : Bool) → (n ≡ length xs → slice_split is_feed xs ≡ xs ∷ []) → cond (not b) (1 + n) 0 ≡ 1 + length xs
    → cond b ([] ∷ slice_split is_feed xs) (onto_first x (slice_split is_feed xs)) ≡ (x ∷ xs) ∷ []
whole_step x xs n true ih h = absurd (omega (arith, h))
whole_step x xs n false ih h = ap (onto_first x) (ih (omega (arith, h)))

whole : (text : List ℕ) → position_or_len is_feed text ≡ length text → slice_split is_feed text ≡ text ∷ []
whole [] h = refl
whole (x ∷ xs) h = grind (arith, whole xs)

-- the last line, unless it is empty
pub last_line : (start : ℕ) (text : List ℕ) → position_or_len is_feed text ≡ length text → (length text == 0) ≡ false → lines_from start text ≡ with_end (start, text) ∷ []
last_line start text h some = grind (arith, whole)

pub no_line : (start : ℕ) (text : List ℕ) → length text ≡ 0 → lines_from start text ≡ []
no_line start [] h = refl
no_line start (x ∷ xs) h = absurd (omega (arith, h))

-- where the rest begins
pub rest_begins : (text : List ℕ) → position_or_len is_feed text < length text
    → length (before_first is_feed text) + 1 + length (after_first is_feed text) ≡ length text
rest_begins text h = grind (arith, length-take, length-drop)

-- ---- all lines of a text

few_placed : (start : ℕ) (pieces : List (List ℕ)) → length (map with_end (placed_from start pieces)) ≤ length pieces
few_placed start [] = omega arith
few_placed start (piece ∷ []) = grind arith
few_placed start (piece ∷ next ∷ later) = grind (arith, few_placed (start + length piece + 1) (next ∷ later))

-- a text has at most a line for each of its bytes, and one more
few_lines : (text : List ℕ) → length (lines_from 0 text) ≤ length text + 1
few_lines text = grind (arith, few_placed, length-slice_split, count_by-le-length)

-- and few are left after the first one
pub few_left : (text : List ℕ) (all : List ((ℕ × ℕ) × List ℕ)) (first : (ℕ × ℕ) × List ℕ) (left : List ((ℕ × ℕ) × List ℕ))
    → all ≡ lines_from 0 text → all ≡ first ∷ left → length text ≤ 4194304 → length left < 9223372036854775808
few_left text all first left all_is cut small =
    let few = few_lines text in
    let size : length (lines_from 0 text) ≡ length (first ∷ left) = ap length (sym all_is ∙ cut) in
    omega (arith, few, size, small)

slices_are : (text : List ℕ) (placed : List (ℕ × List ℕ)) → AreSlices text placed
    → slices_at text (map line_span (map with_end placed)) ≡ map (λ (line : ℕ × List ℕ). line.1) placed
slices_are text [] h = refl
slices_are text (line ∷ later) h = grind (arith, slices_are text later h.1)

-- the slices at the places of all lines are the lines
pub lines_are_slices_at : (text : List ℕ) → slices_at text (map line_span (lines_from 0 text)) ≡ lines text
lines_are_slices_at text = let law = lines_are_slices text in slices_are text (placed_lines text) law.1 ∙ law.0

-- their texts are the lines
pub texts_are_lines : (text : List ℕ) → map line_text (lines_from 0 text) ≡ lines text
texts_are_lines text = sym (map_twice line_text with_end (placed_lines text)) ∙ (lines_are_slices text).0
