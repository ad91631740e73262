-- No line of a plain text has a control character.
use Rattle.std.proofs.Common.{◌≡◌, ℕ, ◌+◌, zero, suc, Bool, true, false, not, cond, List, [], ◌∷◌, map, take, length, refl, sym, subst, ap, ◌∙◌, ◌-◌, arith}
use Rattle.std.specs.Prelude.{◌==◌, slice_index}
use Rattle.std.specs.List.{list_all, slice_split, onto_first}
use Rattle.std.proofs.lemmas.Bool.{and_parts, and_from}
use Rattle.playlist_model.specs.Lines.{placed_from}
use Rattle.playlist_model.specs.Inner.Lines.{is_printable_playlist_byte}
use Rattle.playlist_model.proofs.Printable.{printable_has_no_control}
use Rattle.playlist_parse.specs.LineViews.{is_feed, lines_from, with_end}
use Rattle.playlist_parse.specs.Inner.LineViews.{is_free, is_plain_byte, line_text}

in_front : (xs : List ℕ) (n : ℕ) → list_all is_printable_playlist_byte xs ≡ true → list_all is_printable_playlist_byte (take n xs) ≡ true
in_front xs zero h = refl
in_front [] (suc n) h = refl
in_front (x ∷ xs) (suc n) h = let a = and_parts _ _ h in and_from _ _ a.0 (in_front xs n a.1)

printable : (x : ℕ) → is_feed x ≡ false → is_plain_byte x ≡ true → is_printable_playlist_byte x ≡ true
printable x e h = rw e at h

piece_step : (x : ℕ) (pieces : List (List ℕ)) (b : Bool) → is_feed x ≡ b → is_plain_byte x ≡ true → list_all (list_all is_printable_playlist_byte) pieces ≡ true
    → list_all (list_all is_printable_playlist_byte) (cond b ([] ∷ pieces) (onto_first x pieces)) ≡ true
piece_step x pieces b e plain h = grind arith

-- what stands between the line feeds of a plain text is printable
printable_pieces : (text : List ℕ) → list_all is_plain_byte text ≡ true → list_all (list_all is_printable_playlist_byte) (slice_split is_feed text) ≡ true
printable_pieces [] h = refl
printable_pieces (x ∷ xs) h =
    let a = and_parts _ _ h in piece_step x (slice_split is_feed xs) (is_feed x) refl a.0 (printable_pieces xs a.1)

free : (line : List ℕ) → list_all is_printable_playlist_byte line ≡ true → is_free line ≡ true
free line h = ap not (printable_has_no_control line h)

stripped : (piece : List ℕ) (n : ℕ) (b : Bool) → list_all is_printable_playlist_byte piece ≡ true → list_all is_printable_playlist_byte (cond b (take n piece) piece) ≡ true
stripped piece n true h = in_front piece n h
stripped piece n false h = h

free_lines : (start : ℕ) (pieces : List (List ℕ)) → list_all (list_all is_printable_playlist_byte) pieces ≡ true → list_all is_free (map line_text (map with_end (placed_from start pieces))) ≡ true
free_lines start [] h = refl
free_lines start (piece ∷ []) h = let a = and_parts _ _ h in by (length piece == 0) a.0
  where
    by : (b : Bool) → list_all is_printable_playlist_byte piece ≡ true → list_all is_free (map line_text (map with_end (cond b [] ((start, piece) ∷ [])))) ≡ true
    by true p = refl
    by false p = and_from _ _ (free piece p) refl
free_lines start (piece ∷ next ∷ later) h =
    let a = and_parts _ _ h in
    let first = stripped piece (length piece - 1) (slice_index piece (length piece - 1) == 13) a.0 in
    and_from _ _ (free _ first) (free_lines (start + length piece + 1) (next ∷ later) a.1)

-- no line of a plain text has one
pub plain_lines : (text : List ℕ) → list_all is_plain_byte text ≡ true → list_all is_free (map line_text (lines_from 0 text)) ≡ true
plain_lines text h = free_lines 0 (slice_split is_feed text) (printable_pieces text h)

-- nor one of those after the first
pub later_lines : (text : List ℕ) (all : List ((ℕ × ℕ) × List ℕ)) (first : (ℕ × ℕ) × List ℕ) (left : List ((ℕ × ℕ) × List ℕ)) → all ≡ lines_from 0 text → all ≡ first ∷ left
    → list_all is_plain_byte text ≡ true → list_all is_free (map line_text left) ≡ true
later_lines text all first left all_is cut h =
    let whole : list_all is_free (map line_text (first ∷ left)) ≡ true =
    subst (λ lines. list_all is_free (map line_text lines) ≡ true) (sym all_is ∙ cut) (plain_lines text h) in
    let a = and_parts _ _ whole in a.1
