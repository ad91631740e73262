-- Where the first colon of a text stands.
use Rattle.std.proofs.Common.{◌≡◌, ℕ, ◌+◌, ◌<◌, List, drop, length, arith}
use Rattle.std.specs.List.{position_or_len, before_first, after_first, slice_range}
use Rattle.std.specs.Str.{IsUtf8, IsCharBoundary}
use Rattle.std.proofs.lemmas.Bool.{false_from_ne_true, eqb-true}
use Rattle.std.proofs.lemmas.List.Sums.{position_or_len_is}
use Rattle.std.proofs.lemmas.Str.{IsCharBoundary-after_ascii}
use Rattle.memchr.specs.Find.{Nowhere, NoneBefore, Passes, is_byte}
use Rattle.playlist_model.specs.Lines.{is_colon}

pub no_colon : (text : List ℕ) → Nowhere (Passes (is_byte 58) text) 0 (length text) → position_or_len is_colon text ≡ length text
no_colon text none =
    position_or_len_is is_colon text (length text) 0 (omega arith) (λ k lt. false_from_ne_true _ (none k (omega arith) lt)) (λ lt. absurd (omega (arith, lt)))

pub first_colon : (text : List ℕ) (at : ℕ) → NoneBefore (Passes (is_byte 58) text) 0 (length text) at × Passes (is_byte 58) text at → position_or_len is_colon text ≡ at
first_colon text at h = grind (arith, position_or_len_is, false_from_ne_true)

-- a character begins after a colon
pub colon_ends : (text : List ℕ) (at : ℕ) → IsUtf8 text → at < length text → Passes (is_byte 58) text at → IsCharBoundary text (at + 1)
colon_ends text at utf8 h found = grind (arith, eqb-true, IsCharBoundary-after_ascii)

-- what stands on either side of the first colon
pub cut : (text before after : List ℕ) (at : ℕ) → NoneBefore (Passes (is_byte 58) text) 0 (length text) at × Passes (is_byte 58) text at
    → before ≡ slice_range text 0 at → after ≡ drop (at + 1) text
    → (position_or_len is_colon text < length text) × (before ≡ before_first is_colon text) × (after ≡ after_first is_colon text)
cut text before after at h before_is after_is = grind (arith, first_colon)
