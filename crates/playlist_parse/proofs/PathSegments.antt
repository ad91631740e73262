-- Lines that are one plain segment of a path.
use Rattle.std.proofs.Common.{◌≡◌, ℕ, zero, suc, ◌+◌, ◌-◌, ◌<◌, Bool, true, false, cond, ◌==◌, List, [], ◌∷◌, take, drop, length, slice_index, refl, ap, sym, ◌∙◌, arith}
use Rattle.std.specs.List.{list_all, prefix_len, position_or_len, before_first, after_first, slice_range}
use Rattle.std.specs.Str.{IsUtf8, IsCharBoundary}
use Rattle.std.specs.Str.Lines.{strip_carriage_return}
use Rattle.std.proofs.lemmas.Bool.{and_parts, and_from, eqb-true}
use Rattle.std.proofs.lemmas.Bool.Decides.{nat_tests}
use Rattle.std.proofs.lemmas.List.{length-drop}
use Rattle.std.proofs.lemmas.List.Sums.{prefix_len_passes, prefix_len-le-length}
use Rattle.memchr.specs.Find.{NoneBefore, Passes, is_byte}
use Rattle.playlist_model.specs.Lines.{has_control, is_comment}
use Rattle.playlist_model.specs.Inner.Lines.{is_printable_playlist_byte}
use Rattle.playlist_model.proofs.Printable.{printable_has_no_control}
use Rattle.uri_resolver.specs.Plain.{is_path_segment_byte}
use Rattle.playlist_parse.specs.LineViews.{is_feed, lines_from, with_end}
use Rattle.playlist_parse.proofs.Feeds.{cut, feed_ends}
use Rattle.playlist_parse.proofs.Places.{first_line}

no_line_end : (b : ℕ) → is_path_segment_byte b ≡ true → (b == 10) ≡ true → ⊥
no_line_end b segment feed = let h = rw (eqb-true _ _ feed) at segment in cc

no_return : (b : ℕ) → is_path_segment_byte b ≡ true → (b == 13) ≡ false
no_return b segment = grind arith

no_number_sign : (b : ℕ) → is_path_segment_byte b ≡ true → (35 == b) ≡ false
no_number_sign b segment = grind arith

printable : (b : ℕ) → is_path_segment_byte b ≡ true → is_printable_playlist_byte b ≡ true
printable b segment = grind (arith, nat_tests)

-- ---- the bytes at the front of a text

one_taken : (test : ℕ → Bool) (b : ℕ) (bytes : List ℕ) (passes : Bool) → test b ≡ passes → list_all test (take (prefix_len test bytes) bytes) ≡ true
    → list_all test (take (cond passes (1 + prefix_len test bytes) 0) (b ∷ bytes)) ≡ true
one_taken test b bytes true here later = grind (arith, and_from)
one_taken test b bytes false here later = refl

all_taken : (test : ℕ → Bool) (bytes : List ℕ) → list_all test (take (prefix_len test bytes) bytes) ≡ true
all_taken test [] = refl
all_taken test (b ∷ bytes) = one_taken test b bytes (test b) refl (all_taken test bytes)

from_front : (text : List ℕ) (at : ℕ) → slice_range text 0 at ≡ take at text
from_front text at = grind arith

-- how many they are, if this is left
run_length : (text bytes rest : List ℕ) → bytes ≡ text → rest ≡ drop (prefix_len is_path_segment_byte bytes) bytes → length bytes - length rest ≡ prefix_len is_path_segment_byte text
run_length text bytes rest is left =
    let same = ap (prefix_len is_path_segment_byte) is in
    let size = ap length left in
    let dropped = length-drop (prefix_len is_path_segment_byte bytes) bytes in
    let within = prefix_len-le-length is_path_segment_byte bytes in
    omega (arith, same, size, dropped, within)

-- a text whose bytes are these, of which this is left after them, and the first byte that is left is a line feed
pub record EndsSegment (text bytes rest : List ℕ) : Type 0 where
  pub is : bytes ≡ text
  pub left : rest ≡ drop (prefix_len is_path_segment_byte bytes) bytes
  pub some : length bytes - length rest ≡ length bytes → ⊥
  pub feed : slice_index bytes (length bytes - length rest) ≡ 10

within_text : (text bytes rest : List ℕ) → EndsSegment text bytes rest → length bytes - length rest < length text
within_text text bytes rest ends =
    let run = run_length text bytes rest ends.is ends.left in
    let small = prefix_len-le-length is_path_segment_byte text in
    let size = ap length ends.is in
    let some = ends.some in
    omega (arith, run, small, size, some)

found_feed : (text bytes rest : List ℕ) → EndsSegment text bytes rest → Passes (is_byte 10) text (length bytes - length rest)
found_feed text bytes rest ends =
    ap (λ t. slice_index t (length bytes - length rest) == 10) (sym ends.is) ∙ ap (λ b. b == 10) ends.feed

-- a character begins after that line feed
pub after_segment : (text bytes rest : List ℕ) → IsUtf8 text → EndsSegment text bytes rest → IsCharBoundary text (length bytes - length rest + 1)
after_segment text bytes rest utf8 ends = feed_ends text (length bytes - length rest) utf8 (within_text text bytes rest ends) (found_feed text bytes rest ends)

-- what stands on either side of it
pub segment_cut : (text bytes rest before after : List ℕ) → EndsSegment text bytes rest
    → before ≡ slice_range text 0 (length bytes - length rest) → after ≡ drop (length bytes - length rest + 1) text
    → (position_or_len is_feed text < length text) × (before ≡ before_first is_feed text) × (after ≡ after_first is_feed text) × (list_all is_path_segment_byte before ≡ true)
segment_cut text bytes rest before after ends before_is after_is =
    let run = run_length text bytes rest ends.is ends.left in
    let within = within_text text bytes rest ends in
    let none : NoneBefore (Passes (is_byte 10) text) 0 (length text) (length bytes - length rest) =
    record { low = omega arith; high = within; before = λ k low high passes. no_line_end _ (prefix_len_passes is_path_segment_byte text k 0 (omega (arith, run, high))) passes } in
    let parts = cut text before after (length bytes - length rest) (none, found_feed text bytes rest ends) before_is after_is in
    let front : before ≡ take (prefix_len is_path_segment_byte text) text = before_is ∙ from_front text (length bytes - length rest) ∙ ap (λ n. take n text) run in
    (parts.0, parts.1, parts.2, ap (list_all is_path_segment_byte) front ∙ all_taken is_path_segment_byte text)

-- ---- such a line

all_printable : (line : List ℕ) → list_all is_path_segment_byte line ≡ true → list_all is_printable_playlist_byte line ≡ true
all_printable [] all = refl
all_printable (b ∷ bytes) all = let parts = and_parts _ _ all in and_from _ _ (printable b parts.0) (all_printable bytes parts.1)

pub segment_has_no_control : (line : List ℕ) → list_all is_path_segment_byte line ≡ true → has_control line ≡ false
segment_has_no_control line all = printable_has_no_control line (all_printable line all)

pub segment_is_no_comment : (line : List ℕ) → list_all is_path_segment_byte line ≡ true → is_comment line ≡ false
segment_is_no_comment [] all = refl
segment_is_no_comment (b ∷ bytes) all = let parts = and_parts _ _ all in rw (no_number_sign b parts.0) refl

none_returns : (line : List ℕ) (place : ℕ) → list_all is_path_segment_byte line ≡ true → (slice_index line place == 13) ≡ false
none_returns [] place all = refl
none_returns (b ∷ bytes) zero all = let parts = and_parts _ _ all in no_return b parts.0
none_returns (b ∷ bytes) (suc place) all = let parts = and_parts _ _ all in none_returns bytes place parts.1

segment_stays : (line : List ℕ) → list_all is_path_segment_byte line ≡ true → line ≡ strip_carriage_return line
segment_stays line all = rw (none_returns line (length line - 1) all) refl

-- the first line is it, and those after it are left
pub segment_line : (start : ℕ) (rest piece later : List ℕ) (view : (ℕ × ℕ) × List ℕ) → position_or_len is_feed rest < length rest
    → piece ≡ before_first is_feed rest → later ≡ after_first is_feed rest → list_all is_path_segment_byte piece ≡ true → view ≡ with_end (start, piece)
    → lines_from start rest ≡ view ∷ lines_from (start + length piece + 1) later
segment_line start rest piece later view some piece_is later_is all view_is = first_line start rest piece later piece view some piece_is later_is (segment_stays piece all) view_is
