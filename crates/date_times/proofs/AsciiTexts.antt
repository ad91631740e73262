-- The text of an instant is ASCII.
use Rattle.std.proofs.Common.{◌≡◌, ℕ, ◌/◌, ◌%◌, ◌<◌, Bool, true, false, cond, List, [], ◌∷◌, ◌++◌, refl, arith}
use Rattle.std.specs.Prelude.{IsAscii, ◌==◌, nat_lt}
use Rattle.std.specs.List.{list_all}
use Rattle.std.proofs.lemmas.Bool.{and_parts, ltb-true}
use Rattle.std.proofs.lemmas.Str.{IsAscii-append}
use Rattle.std.proofs.lemmas.Str.Ascii.{IsAscii-nil, IsAscii-cons}
use Rattle.date_times.specs.Digits.{fixed_digits}
use Rattle.spec_words.specs.Bytes.{line_feed}
use Rattle.date_times.specs.Times.{decimals, time_tag, time_text_at}
use Rattle.date_times.proofs.WrittenDigits.{fixed_ascii}

one_ascii : (b : Bool) (x y : List ℕ) → IsAscii x → IsAscii y → IsAscii (cond b x y)
one_ascii true x y h g = h
one_ascii false x y h g = g

-- a number, a mark and more
ascii_then : (k n mark : ℕ) (rest : List ℕ) → mark < 128 → IsAscii rest → IsAscii (fixed_digits 10 k n ++ mark ∷ rest)
ascii_then k n mark rest h g = IsAscii-append (fixed_digits 10 k n) (mark ∷ rest) (fixed_ascii k n) (IsAscii-cons mark rest h g)

pub text_ascii : (n : ℕ) → IsAscii (time_text_at n)
text_ascii n =
    let nanos = n % 1000000000 in
    let fraction = IsAscii-append (decimals nanos) (90 ∷ []) (one_ascii (nanos % 1000000 == 0) (fixed_digits 10 3 (nanos / 1000000)) (fixed_digits 10 9 nanos) (fixed_ascii 3 (nanos / 1000000)) (fixed_ascii 9 nanos))
    (IsAscii-cons 90 [] (omega arith) IsAscii-nil) in
    let second = ascii_then 2 _ 46 _ (omega arith) fraction in
    let clock = ascii_then 2 _ 58 _ (omega arith) (ascii_then 2 _ 58 _ (omega arith) second) in
    ascii_then 4 _ 45 _ (omega arith) (ascii_then 2 _ 45 _ (omega arith) (ascii_then 2 _ 84 _ (omega arith) clock))

each_ascii : (text : List ℕ) → list_all (λ byte. nat_lt byte 128) text ≡ true → IsAscii text
each_ascii [] h = IsAscii-nil
each_ascii (byte ∷ later) h = let parts = and_parts (nat_lt byte 128) _ h in IsAscii-cons byte later (ltb-true byte 128 parts.0) (each_ascii later parts.1)

tag_ascii : IsAscii time_tag
unfolding time_tag
tag_ascii = each_ascii time_tag refl

pub line_ascii : (n : ℕ) → IsAscii (time_tag ++ (time_text_at n ++ line_feed ∷ []))
line_ascii n = IsAscii-append time_tag (time_text_at n ++ line_feed ∷ []) tag_ascii (IsAscii-append (time_text_at n) (line_feed ∷ []) (text_ascii n) (IsAscii-cons line_feed [] (omega arith) IsAscii-nil))
