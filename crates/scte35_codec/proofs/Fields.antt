-- Fields one after the other, split where a byte begins.
use Rattle.std.proofs.Common.{◌≡◌, ℕ, zero, suc, ◌+◌, ◌*◌, ◌/◌, ◌%◌, ◌^◌, ◌<◌, List, [], ◌∷◌, ◌++◌, length, refl, sym, ap, subst, ◌∙◌, add_comm, arith}
use Rattle.std.proofs.Math.Nat.{div-eq_of_lt, mod-eq_of_lt, pow-suc, mul_comm}
use Rattle.std.proofs.Math.Pow.{mod-mod-pow}
use Rattle.std.proofs.lemmas.Nat.{pow-add, shr-shr, field_of, div-mul-add, mod-mul-add, mod_below, pow_pos, mul-add-lt}
use Rattle.std.proofs.lemmas.List.{length-append}
use Rattle.scte35_codec.specs.Layout.{Content, BitField, width, big_endian_splice_number, Splits, HoldsFields}
use Rattle.scte35_codec.specs.Layout.{IsBytes}
use Rattle.scte35_codec.proofs.Numbers.{number-append, number_below}

pub width-append : (fs gs : List BitField) → width (fs ++ gs) ≡ width fs + width gs
width-append [] gs = omega arith
width-append (f ∷ fs) gs = omega (arith, width-append fs gs)

-- a quotient of a quotient
div-div : (n a b : ℕ) → n / 2 ^ b / 2 ^ a ≡ n / 2 ^ (a + b)
div-div n a b = shr-shr n b a ∙ ap (λ (k : ℕ). n / 2 ^ k) (add_comm b a)

pub Splits-join : (Has : Content → ℕ → Type 0) (fs gs : List BitField) (n : ℕ) → Splits Has fs (n / 2 ^ width gs) → Splits Has gs (n % 2 ^ width gs) → n < 2 ^ (width fs + width gs) → Splits Has (fs ++ gs) n
Splits-join Has [] gs n front back below =
    let lt : n < 2 ^ width gs = subst (λ (k : ℕ). n < 2 ^ k) (omega arith) below in
    subst (λ (m : ℕ). Splits Has gs m) (mod-eq_of_lt lt) back
Splits-join Has (f ∷ fs) gs n front back below =
    let a = width fs in
    let b = width gs in
    let m = n % 2 ^ (a + b) in
    let first : Has f.1 (n / 2 ^ (a + b)) = subst (λ (k : ℕ). Has f.1 k) (div-div n a b) front.0 in
    let inner : Splits Has fs (m / 2 ^ b) = subst (λ (k : ℕ). Splits Has fs k) (sym (field_of n a b)) front.1 in
    let outer : Splits Has gs (m % 2 ^ b) = subst (λ (k : ℕ). Splits Has gs k) (sym (mod-mod-pow n a b)) back in
    let others : Splits Has (fs ++ gs) m = Splits-join Has fs gs m inner outer (mod_below n (2 ^ (a + b)) (pow_pos (a + b))) in
    subst (λ (w : ℕ). Has f.1 (n / 2 ^ w) × Splits Has (fs ++ gs) (n % 2 ^ w)) (sym (width-append fs gs)) (first, others)

pub Splits-parts : (Has : Content → ℕ → Type 0) (fs gs : List BitField) (n : ℕ) → n < 2 ^ (width fs + width gs) → Splits Has (fs ++ gs) n → Splits Has fs (n / 2 ^ width gs) × Splits Has gs (n % 2 ^ width gs)
Splits-parts Has [] gs n below split =
    let lt : n < 2 ^ width gs = subst (λ (k : ℕ). n < 2 ^ k) (omega arith) below in
    (div-eq_of_lt lt, subst (λ (m : ℕ). Splits Has gs m) (sym (mod-eq_of_lt lt)) split)
Splits-parts Has (f ∷ fs) gs n below split =
    let a = width fs in
    let b = width gs in
    let m = n % 2 ^ (a + b) in
    let both : Has f.1 (n / 2 ^ (a + b)) × Splits Has (fs ++ gs) m = subst (λ (w : ℕ). Has f.1 (n / 2 ^ w) × Splits Has (fs ++ gs) (n % 2 ^ w)) (width-append fs gs) split in
    let rest = Splits-parts Has fs gs m (mod_below n (2 ^ (a + b)) (pow_pos (a + b))) both.1 in
    ((subst (λ (k : ℕ). Has f.1 k) (sym (div-div n a b)) both.0, subst (λ (k : ℕ). Splits Has fs k) (field_of n a b) rest.0), subst (λ (k : ℕ). Splits Has gs k) (mod-mod-pow n a b) rest.1)

-- bytes and bits have one size
pub bytes-bits : (k : ℕ) → 256 ^ k ≡ 2 ^ (8 * k)
bytes-bits zero = refl
bytes-bits (suc k) =
    let more : 8 * suc k ≡ 8 * k + 8 = omega arith in
    pow-suc 256 k ∙ ap (λ (m : ℕ). m * 256) (bytes-bits k) ∙ sym (pow-add 2 (8 * k) 8) ∙ ap (λ (m : ℕ). 2 ^ m) (sym more)

-- the number of some bytes, in front of others of so many bits
pub number-two : (xs ys : List ℕ) (w : ℕ) → 8 * length ys ≡ w → big_endian_splice_number (xs ++ ys) ≡ big_endian_splice_number xs * 2 ^ w + big_endian_splice_number ys
number-two xs ys w e = grind (arith, number-append, bytes-bits)

pub number_fits : (xs : List ℕ) (w : ℕ) → IsBytes xs → 8 * length xs ≡ w → big_endian_splice_number xs < 2 ^ w
number_fits xs w fits e = grind (arith, bytes-bits, number_below)

pub Holds-join : (Has : Content → ℕ → Type 0) (fs gs : List BitField) (xs ys : List ℕ) → IsBytes xs → IsBytes ys → HoldsFields Has fs xs → HoldsFields Has gs ys → HoldsFields Has (fs ++ gs) (xs ++ ys)
Holds-join Has fs gs xs ys x-fits y-fits front back =
    let two = number-two xs ys (width gs) back.count in
    let low = number_fits ys (width gs) y-fits back.count in
    let high = number_fits xs (width fs) x-fits front.count in
    let quotient : big_endian_splice_number (xs ++ ys) / 2 ^ width gs ≡ big_endian_splice_number xs = rw two (div-mul-add (big_endian_splice_number xs) (2 ^ width gs) (big_endian_splice_number ys) low) in
    let remainder : big_endian_splice_number (xs ++ ys) % 2 ^ width gs ≡ big_endian_splice_number ys = rw two (mod-mul-add (big_endian_splice_number xs) (2 ^ width gs) (big_endian_splice_number ys) low) in
    let below : big_endian_splice_number (xs ++ ys) < 2 ^ (width fs + width gs) = rw (two, pow-add 2 (width fs) (width gs), mul_comm (2 ^ width fs) (2 ^ width gs)) (mul-add-lt (big_endian_splice_number xs) (2 ^ width gs) (big_endian_splice_number ys) (2 ^ width fs) high low) in
    record {
      count = omega (arith, front.count, back.count, length-append xs ys, width-append fs gs);
      split = Splits-join Has fs gs (big_endian_splice_number (xs ++ ys)) (subst (λ (k : ℕ). Splits Has fs k) (sym quotient) front.split) (subst (λ (k : ℕ). Splits Has gs k) (sym remainder) back.split) below;
    }

pub Holds-parts : (Has : Content → ℕ → Type 0) (fs gs : List BitField) (xs ys : List ℕ) → IsBytes xs → IsBytes ys → 8 * length xs ≡ width fs → HoldsFields Has (fs ++ gs) (xs ++ ys) → HoldsFields Has fs xs × HoldsFields Has gs ys
Holds-parts Has fs gs xs ys x-fits y-fits len whole =
    let len-ys : 8 * length ys ≡ width gs = omega (arith, whole.count, length-append xs ys, width-append fs gs) in
    let two = number-two xs ys (width gs) len-ys in
    let low = number_fits ys (width gs) y-fits len-ys in
    let high = number_fits xs (width fs) x-fits len in
    let quotient : big_endian_splice_number (xs ++ ys) / 2 ^ width gs ≡ big_endian_splice_number xs = rw two (div-mul-add (big_endian_splice_number xs) (2 ^ width gs) (big_endian_splice_number ys) low) in
    let remainder : big_endian_splice_number (xs ++ ys) % 2 ^ width gs ≡ big_endian_splice_number ys = rw two (mod-mul-add (big_endian_splice_number xs) (2 ^ width gs) (big_endian_splice_number ys) low) in
    let below : big_endian_splice_number (xs ++ ys) < 2 ^ (width fs + width gs) = rw (two, pow-add 2 (width fs) (width gs), mul_comm (2 ^ width fs) (2 ^ width gs)) (mul-add-lt (big_endian_splice_number xs) (2 ^ width gs) (big_endian_splice_number ys) (2 ^ width fs) high low) in
    let parts = Splits-parts Has fs gs (big_endian_splice_number (xs ++ ys)) below whole.split in
    (record { count = len; split = subst (λ (k : ℕ). Splits Has fs k) quotient parts.0 }, record { count = len-ys; split = subst (λ (k : ℕ). Splits Has gs k) remainder parts.1 })
