-- The lines of two texts, one after the other, the first of which ends with a line feed.
use Rattle.std.proofs.Common.{◌≡◌, ℕ, ◌+◌, ◌≤◌, Bool, true, false, cond, List, [], ◌∷◌, ◌++◌, map, length, refl, ap, sym, arith, subst}
use Rattle.std.specs.Prelude.{◌==◌}
use Rattle.std.specs.List.{slice_split, onto_first}
use Rattle.std.specs.Str.Lines.{lines, lines_of_parts, strip_carriage_return}
use Rattle.std.proofs.lemmas.List.Splits.{length-slice_split}
use Rattle.playlist_model.specs.Lines.{placed_from}
use Rattle.playlist_parse.specs.LineViews.{is_feed, with_end, lines_from}
use Rattle.playlist_parse.specs.Inner.LineViews.{line_text}
use Rattle.playlist_parse.specs.Inner.Source.{EndsInFeed}

-- ---- wherever they begin

whole_or_none : (b : Bool) (start : ℕ) (piece : List ℕ) → map line_text (map with_end (cond b [] ((start, piece) ∷ []))) ≡ cond b [] (piece ∷ [])
whole_or_none true start piece = refl
whole_or_none false start piece = refl

texts_of_parts : (start : ℕ) (pieces : List (List ℕ)) → map line_text (map with_end (placed_from start pieces)) ≡ lines_of_parts pieces
texts_of_parts start [] = refl
texts_of_parts start (piece ∷ []) = whole_or_none (length piece == 0) start piece
texts_of_parts start (piece ∷ next ∷ later) = ap (λ xs. strip_carriage_return piece ∷ xs) (texts_of_parts (start + length piece + 1) (next ∷ later))

pub texts_from : (start : ℕ) (text : List ℕ) → map line_text (lines_from start text) ≡ lines text
texts_from start text = texts_of_parts start (slice_split is_feed text)

-- ---- joined

record Cut (front : List ℕ) : Type 0 where
  piece : List ℕ
  pieces : List (List ℕ)
  own : slice_split is_feed front ≡ (piece ∷ pieces) ++ [] ∷ []
  joined : (back : List ℕ) → slice_split is_feed (front ++ back) ≡ (piece ∷ pieces) ++ slice_split is_feed back

onto : (x : ℕ) (b : Bool) (piece : List ℕ) (pieces rest all : List (List ℕ)) → all ≡ (piece ∷ pieces) ++ rest
    → cond b ([] ∷ all) (onto_first x all) ≡ (cond b [] (x ∷ piece) ∷ cond b (piece ∷ pieces) pieces) ++ rest
onto x true piece pieces rest all h = ap (λ xs. [] ∷ xs) h
onto x false piece pieces rest all h = ap (onto_first x) h

cut : (init : List ℕ) → Cut (init ++ 10 ∷ [])
cut [] = record { piece = []; pieces = []; own = refl; joined = λ back. refl }
cut (x ∷ init) =
    let c = cut init in record {
      piece = cond (is_feed x) [] (x ∷ c.piece);
      pieces = cond (is_feed x) (c.piece ∷ c.pieces) c.pieces;
      own = onto x (is_feed x) c.piece c.pieces ([] ∷ []) _ c.own;
      joined = λ back. onto x (is_feed x) c.piece c.pieces (slice_split is_feed back) _ (c.joined back);
    }

stripped : (piece : List ℕ) (pieces : List (List ℕ)) (next : List ℕ) (later : List (List ℕ))
    → lines_of_parts ((piece ∷ pieces) ++ next ∷ later) ≡ map strip_carriage_return (piece ∷ pieces) ++ lines_of_parts (next ∷ later)
stripped piece [] next later = refl
stripped piece (y ∷ ys) next later = ap (λ xs. strip_carriage_return piece ∷ xs) (stripped y ys next later)

stripped_before : (piece : List ℕ) (pieces later : List (List ℕ)) → 1 ≤ length later
    → lines_of_parts ((piece ∷ pieces) ++ later) ≡ map strip_carriage_return (piece ∷ pieces) ++ lines_of_parts later
stripped_before piece pieces [] h = absurd (omega (arith, h))
stripped_before piece pieces (next ∷ later) h = stripped piece pieces next later

append_none : (xs : List (List ℕ)) → xs ++ [] ≡ xs
append_none [] = refl
append_none (x ∷ xs) = ap (λ ys. x ∷ ys) (append_none xs)

joined_cut : (front back : List ℕ) → Cut front → lines (front ++ back) ≡ lines front ++ lines back
joined_cut front back c = grind (arith, length-slice_split, stripped, append_none, stripped_before)

pub joined_lines : (front back : List ℕ) → EndsInFeed front → lines (front ++ back) ≡ lines front ++ lines back
joined_lines front back h = joined_cut front back (subst Cut (sym h.is) (cut h.front))

-- the lines of a text from a place on, of which a front ends with a line feed
pub after_front : (start more : ℕ) (text front later : List ℕ) → text ≡ front ++ later → EndsInFeed front
    → map line_text (lines_from start text) ≡ lines front ++ map line_text (lines_from more later)
after_front start more text front later is h = grind (arith, texts_from, joined_lines)
