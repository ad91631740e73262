-- Where the first line feed of a text stands.
use Rattle.std.proofs.Common.{◌≡◌, ℕ, ◌+◌, ◌<◌, List, drop, length, arith}
use Rattle.std.specs.List.{position_or_len, before_first, after_first, slice_range}
use Rattle.std.specs.Str.{IsUtf8, IsCharBoundary}
use Rattle.std.proofs.lemmas.Bool.{false_from_ne_true, eqb-true}
use Rattle.std.proofs.lemmas.List.Sums.{position_or_len_is}
use Rattle.std.proofs.lemmas.Str.{IsCharBoundary-after_ascii}
use Rattle.memchr.specs.Find.{Nowhere, NoneBefore, Passes, is_byte}
use Rattle.playlist_parse.specs.LineViews.{is_feed}

pub no_feed : (text : List ℕ) → Nowhere (Passes (is_byte 10) text) 0 (length text) → position_or_len is_feed text ≡ length text
no_feed text none =
    position_or_len_is is_feed text (length text) 0 (omega arith) (λ k lt. false_from_ne_true _ (none k (omega arith) lt)) (λ lt. absurd (omega (arith, lt)))

pub first_feed : (text : List ℕ) (at : ℕ) → NoneBefore (Passes (is_byte 10) text) 0 (length text) at × Passes (is_byte 10) text at → position_or_len is_feed text ≡ at
first_feed text at h = grind (arith, position_or_len_is, false_from_ne_true)

-- a character begins after a line feed
pub feed_ends : (text : List ℕ) (at : ℕ) → IsUtf8 text → at < length text → Passes (is_byte 10) text at → IsCharBoundary text (at + 1)
feed_ends text at utf8 h feed = grind (arith, eqb-true, IsCharBoundary-after_ascii)

-- what stands on either side of the first line feed
pub cut : (text before after : List ℕ) (at : ℕ) → NoneBefore (Passes (is_byte 10) text) 0 (length text) at × Passes (is_byte 10) text at
    → before ≡ slice_range text 0 at → after ≡ drop (at + 1) text
    → (position_or_len is_feed text < length text) × (before ≡ before_first is_feed text) × (after ≡ after_first is_feed text)
cut text before after at h before_is after_is = grind (arith, first_feed)
