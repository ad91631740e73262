-- CRC_32: the register after some bits.
use Rattle.std.proofs.Common.{◌≡◌, ℕ, zero, suc, ◌+◌, ◌-◌, ◌*◌, ◌/◌, ◌%◌, ◌^◌, ◌<◌, Bool, true, false, cond, List, [], ◌∷◌, ◌++◌, refl, sym, ap, ◌∙◌, lit<, arith}
use Rattle.std.specs.Prelude.{fold, bit_xor, ◌==◌}
use Rattle.std.specs.Int.{byte_at, bytes_high_first}
use Rattle.std.proofs.lemmas.List.Sums.{fold-append}
use Rattle.std.proofs.lemmas.Nat.{shr-shr, shl-shr, field_of, mod_below, xor_lt}
use Rattle.std.proofs.lemmas.Grind.{flat_map-append}
use Rattle.std.proofs.Math.Nat.{mod-eq_of_lt}
use Rattle.std.proofs.Math.Pow.{mod-mod-pow}
use Rattle.scte35_codec.specs.Reading.{splice_bit}
use Rattle.scte35_codec.proofs.Fields.{bytes-bits}
use Rattle.scte35_codec.proofs.Appends.{byte_is}
use Rattle.scte35_codec.specs.Crc.{lowest_bits, bits_of, polynomial, moved_up, differ, crc_after_bit, crc_of}

-- the register after bytes, each of them with its bits
abbrev after_byte : ℕ → ℕ → ℕ
after_byte register b = fold crc_after_bit register (lowest_bits 8 b)

after_all : (register : ℕ) (bytes : List ℕ) → fold after_byte register bytes ≡ fold crc_after_bit register (bits_of bytes)
unfolding bits_of
after_all register [] = refl
after_all register (b ∷ bytes) = grind (arith, after_all (after_byte register b) bytes, fold-append)

pub crc_by_bytes : (bytes : List ℕ) → crc_of bytes ≡ fold (λ register b. fold crc_after_bit register (lowest_bits 8 b)) 0xFFFFFFFF bytes
unfolding crc_of
crc_by_bytes bytes = sym (after_all 0xFFFFFFFF bytes)

-- one bit more
pub bit_goes : (register left b : ℕ) → 0 < left
    → fold crc_after_bit register (lowest_bits left b) ≡ fold crc_after_bit (crc_after_bit register (splice_bit (left - 1) b)) (lowest_bits (left - 1) b)
unfolding lowest_bits
bit_goes register left b some = grind arith

pub no_bits : (register left b : ℕ) → left ≡ 0 → fold crc_after_bit register (lowest_bits left b) ≡ register
unfolding lowest_bits
no_bits register zero b none = refl
no_bits register (suc k) b none = absurd (omega arith)

-- ---- The register has 32 bits

bit_below : (register : ℕ) (comes : Bool) → crc_after_bit register comes < 2 ^ 32
unfolding crc_after_bit
bit_below register comes = by_cases (differ comes (splice_bit 31 register))
  where
    below : moved_up register < 2 ^ 32
    below = mod_below (register * 2) (2 ^ 32) (omega arith)

    by_cases : (d : Bool) → cond d (bit_xor (moved_up register) polynomial) (moved_up register) < 2 ^ 32
    by_cases true = xor_lt 32 (moved_up register) polynomial below (lit< tt)
    by_cases false = below

fold_below : (register : ℕ) (bits : List Bool) → register < 2 ^ 32 → fold crc_after_bit register bits < 2 ^ 32
fold_below register [] below = below
fold_below register (b ∷ bits) below = fold_below (crc_after_bit register b) bits (bit_below register b)

pub crc_below : (bytes : List ℕ) → crc_of bytes < 2 ^ 32
unfolding crc_of
crc_below bytes = fold_below 0xFFFFFFFF (bits_of bytes) (lit< tt)

-- ---- The bits of a number's bytes are its own

bit_mod : (p d t n : ℕ) → suc d + p ≡ t → splice_bit p (n % 2 ^ t) ≡ splice_bit p n
bit_mod p d t n e =
    let wide : n % 2 ^ t ≡ n % 2 ^ (suc d + p) = ap (λ (k : ℕ). n % 2 ^ k) (sym e) in
    let part : n % 2 ^ (suc d + p) / 2 ^ p ≡ n / 2 ^ p % 2 ^ suc d = field_of n (suc d) p in
    let more : suc d ≡ d + 1 = omega arith in
    let last : n / 2 ^ p % 2 ^ suc d % 2 ≡ n / 2 ^ p % 2 = ap (λ (k : ℕ). n / 2 ^ p % 2 ^ k % 2) more ∙ mod-mod-pow (n / 2 ^ p) d 1 in
    let same : n % 2 ^ t / 2 ^ p % 2 ≡ n / 2 ^ p % 2 = ap (λ (m : ℕ). m / 2 ^ p % 2) wide ∙ ap (λ (m : ℕ). m % 2) part ∙ last in
    ap (λ (m : ℕ). m == 1) same

lowest_mod : (a d t n : ℕ) → a + d ≡ t → lowest_bits a (n % 2 ^ t) ≡ lowest_bits a n
unfolding lowest_bits
lowest_mod zero d t n e = refl
lowest_mod (suc a) d t n e =
    let first : splice_bit a (n % 2 ^ t) ≡ splice_bit a n = bit_mod a d t n (omega arith) in
    let others : lowest_bits a (n % 2 ^ t) ≡ lowest_bits a n = lowest_mod a (suc d) t n (omega arith) in
    rw (first, others) refl

lowest_parts : (a k n : ℕ) → lowest_bits (a + k) n ≡ lowest_bits a (n / 2 ^ k) ++ lowest_bits k n
unfolding lowest_bits
lowest_parts zero k n = ap (λ (m : ℕ). lowest_bits m n) (omega arith)
lowest_parts (suc a) k n =
    let more : suc a + k ≡ suc (a + k) = omega arith in
    let turned : k + a ≡ a + k = omega arith in
    let place : n / 2 ^ k / 2 ^ a ≡ n / 2 ^ (a + k) = shr-shr n k a ∙ ap (λ (m : ℕ). n / 2 ^ m) turned in
    let first : splice_bit (a + k) n ≡ splice_bit a (n / 2 ^ k) = ap (λ (m : ℕ). m % 2 == 1) (sym place) in
    rw (more, first, lowest_parts a k n) refl

bits_high : (k n : ℕ) → bits_of (bytes_high_first k n) ≡ lowest_bits (8 * k) n
unfolding bits_of lowest_bits
bits_high zero n = refl
bits_high (suc k) n =
    let more : 8 * suc k ≡ 8 + 8 * k = omega arith in
    let byte : byte_at k n ≡ n / 2 ^ (8 * k) % 2 ^ 8 = byte_is k n ∙ ap (λ (m : ℕ). n / m % 256) (bytes-bits k) in
    let front : lowest_bits 8 (byte_at k n) ≡ lowest_bits 8 (n / 2 ^ (8 * k)) = ap (lowest_bits 8) byte ∙ lowest_mod 8 0 8 (n / 2 ^ (8 * k)) refl in
    ap (λ (bs : List Bool). bs ++ bits_of (bytes_high_first k n)) front
    ∙ ap (λ (bs : List Bool). lowest_bits 8 (n / 2 ^ (8 * k)) ++ bs) (bits_high k n)
    ∙ sym (lowest_parts 8 (8 * k) n) ∙ ap (λ (m : ℕ). lowest_bits m n) (sym more)

-- ---- The CRC_32 of bytes with theirs after them

same_bit : (b : Bool) → differ b b ≡ false
same_bit true = refl
same_bit false = refl

-- the bit that comes is the one that leaves
just_moves : (register : ℕ) (b : Bool) → splice_bit 31 register ≡ b → crc_after_bit register b ≡ moved_up register
unfolding crc_after_bit
just_moves register b e = rw (e, same_bit b) refl

-- a number of 32 bits, moved up by some, has the next one as its highest
highest : (n j k : ℕ) → j + suc k ≡ 32 → splice_bit 31 (n * 2 ^ j % 2 ^ 32) ≡ splice_bit k n
highest n j k e =
    let place : j + k ≡ 31 = omega arith in
    let back : n * 2 ^ j / 2 ^ 31 ≡ n / 2 ^ k = ap (λ (m : ℕ). n * 2 ^ j / 2 ^ m) (sym place) ∙ sym (shr-shr (n * 2 ^ j) j k) ∙ ap (λ (m : ℕ). m / 2 ^ k) (shl-shr n j) in
    bit_mod 31 0 32 (n * 2 ^ j) refl ∙ ap (λ (m : ℕ). m % 2 == 1) back

goes_up : (n j : ℕ) → moved_up (n * 2 ^ j % 2 ^ 32) ≡ n * 2 ^ suc j % 2 ^ 32
goes_up n j = grind arith

-- the bits of the register itself push it out
pushed_out : (n j k : ℕ) → j + k ≡ 32 → fold crc_after_bit (n * 2 ^ j % 2 ^ 32) (lowest_bits k n) ≡ 0
unfolding lowest_bits
pushed_out n j zero e = grind arith
pushed_out n j (suc k) e = grind (arith, pushed_out n (suc j) k (omega arith), goes_up, highest, just_moves)

its_bits : (n : ℕ) → n < 2 ^ 32 → fold crc_after_bit n (bits_of (bytes_high_first 4 n)) ≡ 0
its_bits n below =
    let whole : n * 2 ^ 0 % 2 ^ 32 ≡ n = ap (λ (m : ℕ). m % 2 ^ 32) (omega arith) ∙ mod-eq_of_lt below in
    ap (fold crc_after_bit n) (bits_high 4 n) ∙ ap (λ (r : ℕ). fold crc_after_bit r (lowest_bits 32 n)) (sym whole) ∙ pushed_out n 0 32 refl

pub crc_is_zero : (bytes : List ℕ) → crc_of (bytes ++ bytes_high_first 4 (crc_of bytes)) ≡ 0
unfolding crc_of bits_of
crc_is_zero bytes = grind (arith, crc_below, flat_map-append, fold-append, its_bits)
