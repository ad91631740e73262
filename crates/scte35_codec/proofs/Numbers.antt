-- The number of some bytes, the first byte the highest.
use Rattle.std.proofs.Common.{◌≡◌, ℕ, suc, ◌+◌, ◌*◌, ◌^◌, ◌<◌, ◌≤◌, List, [], ◌∷◌, ◌++◌, length, take, drop, ap, inl, inr, arith}
use Rattle.std.proofs.Math.Nat.{pow-suc, pow-le-pow_right}
use Rattle.std.proofs.lemmas.Bool.{cases_lt}
use Rattle.std.proofs.lemmas.Nat.{pow-add, mul-le}
use Rattle.std.proofs.lemmas.List.{length-append, length-take, take_all, get_or-drop, get_or-take, get_or_past}
use Rattle.std.proofs.lemmas.Grind.{common_steps}
use Rattle.scte35_codec.specs.Layout.{IsBytes, big_endian_splice_number}

pub IsBytes-drop : (n : ℕ) (bytes : List ℕ) → IsBytes bytes → IsBytes (drop n bytes)
IsBytes-drop n bytes h i = rw get_or-drop (h (n + i))

pub IsBytes-take : (n : ℕ) (bytes : List ℕ) → IsBytes bytes → IsBytes (take n bytes)
IsBytes-take n bytes h i = grind (arith, cases_lt, inl, get_or-take, inr, get_or_past, length-take)

pub IsBytes-rest : (b : ℕ) (bytes : List ℕ) → IsBytes (b ∷ bytes) → IsBytes bytes
IsBytes-rest b bytes h i = h (suc i)

pub number-append : (xs ys : List ℕ) → big_endian_splice_number (xs ++ ys) ≡ big_endian_splice_number xs * 256 ^ length ys + big_endian_splice_number ys
number-append [] ys = omega arith
number-append (x ∷ xs) ys = grind (arith, number-append xs ys, length-append, pow-add)

pub number_below : (xs : List ℕ) → IsBytes xs → big_endian_splice_number xs < 256 ^ length xs
number_below [] fits = omega arith
number_below (x ∷ xs) fits =
    let p : 256 ^ suc (length xs) ≡ 256 ^ length xs * 256 = pow-suc 256 (length xs) in
    let below = number_below xs (IsBytes-rest x xs fits) in
    let first : x < 256 = fits 0 in
    let most : x * 256 ^ length xs ≤ 255 * 256 ^ length xs = mul-le x (256 ^ length xs) 255 (256 ^ length xs) (omega arith) (omega arith) in
    omega arith

pub number_below_take : (xs : List ℕ) (i : ℕ) → i ≤ length xs → IsBytes xs → big_endian_splice_number (take i xs) < 256 ^ i
number_below_take xs i le fits = grind (arith, common_steps, number_below)

-- a byte more still fits 64 bits
pub more_fits : (n b i : ℕ) → n < 256 ^ i → b < 256 → i < 8 → n * 256 + b < 2 ^ 64
more_fits n b i below byte few = grind (arith, pow-le-pow_right)

pub product_fits : (n i : ℕ) → n < 256 ^ i → i < 8 → n * 256 < 2 ^ 64
product_fits n i below few = omega (arith, more_fits n 0 i below (omega arith) few)

-- the whole list is the front of its length
pub take_whole : (xs : List ℕ) (i : ℕ) → length xs ≤ i → i ≤ length xs → big_endian_splice_number (take i xs) ≡ big_endian_splice_number xs
take_whole xs i le ge = ap big_endian_splice_number (take_all i xs le)
