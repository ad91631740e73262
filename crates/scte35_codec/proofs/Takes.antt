-- What a reader took from the front of some bytes, and what it reads of fields that lie there.
use Rattle.std.proofs.Common.{◌≡◌, ℕ, ◌+◌, ◌*◌, ◌/◌, ◌%◌, ◌^◌, ◌<◌, ◌≤◌, Bool, true, false, cond, eqb, ltb, List, ◌++◌, length, take, drop, Result, Ok, Err, refl, sym, ap, subst, ◌∙◌, inl, inr, append_assoc, arith}
use Rattle.std.proofs.lemmas.Bool.{cases_lt, ltb-false, le-ltb}
use Rattle.std.proofs.lemmas.List.{length-take, length-drop, take-append-drop, take-take, get_or_append_left, get_or-append_right}
use Rattle.scte35_codec.specs.declared.fault.SpliceFault.{SpliceFault}
use Rattle.scte35_codec.specs.declared.fault.SpliceFault.TheVariants.{CommandLength}
use Rattle.scte35_codec.specs.Layout.{BitField, width, big_endian_splice_number, Splits, HoldsFields, IsRead}
use Rattle.scte35_codec.specs.Section.{splice_flag}
use Rattle.spec_words.specs.Outcomes.{◌>>=◌}
use Rattle.scte35_codec.specs.Reading.{number_at}
use Rattle.scte35_codec.specs.Layout.{IsBytes}
use Rattle.scte35_codec.proofs.Numbers.{IsBytes-drop, IsBytes-take}
use Rattle.scte35_codec.proofs.Fields.{width-append, Holds-join, Holds-parts, number-two, number_fits}

-- ---- Steps that did not fail

pub bind_ok : {A B : Type 0} (r : Result A SpliceFault) (f : A → Result B SpliceFault) (y : B) → (r >>= f) ≡ Ok y → (x : A) × (r ≡ Ok x) × (f x ≡ Ok y)
bind_ok (Ok x) f y e = (x, refl, e)
bind_ok (Err d) f y e = absurd cc

pub guard_ok : {A : Type 0} (b : Bool) (d : SpliceFault) (x y : A) → cond b (Err d) (Ok x) ≡ Ok y → (b ≡ false) × (x ≡ y)
guard_ok true d x y e = absurd cc
guard_ok false d x y e = (refl, cc)

abbrev done : {A : Type 0} → A → Result A SpliceFault
done x = Ok x

pub ok_is : {A : Type 0} (x y : A) → done x ≡ done y → x ≡ y
ok_is x y e = cc

-- ---- Flags

flag_by : (m k : ℕ) (b : Bool) → eqb (k % 2) 1 ≡ b → m < 2 → k % 2 ≡ m → m ≡ splice_flag b
flag_by m k b e lt same = grind arith

-- a bit as the test of it
pub flag-test : (m k : ℕ) → m < 2 → k % 2 ≡ m → m ≡ splice_flag (eqb (k % 2) 1)
flag-test m k lt same = flag_by m k (eqb (k % 2) 1) refl lt same

pub test-flag : (k : ℕ) (b : Bool) → k % 2 ≡ splice_flag b → eqb (k % 2) 1 ≡ b
test-flag k true e = rw e refl
test-flag k false e = rw e refl

-- ---- Taken from the front

pub IsBytes-append : (xs ys : List ℕ) → IsBytes xs → IsBytes ys → IsBytes (xs ++ ys)
IsBytes-append xs ys p q i = grind (arith, cases_lt, inl, get_or_append_left, inr, get_or-append_right)

-- what fields took from the front of some bytes
pub record Takes (fields : List BitField) (bytes rest : List ℕ) : Type 0 where
  pub front : List ℕ
  pub whole : bytes ≡ front ++ rest
  pub front_fits : IsBytes front
  pub rest_fits : IsBytes rest
  pub holds : HoldsFields IsRead fields front

pub Takes-then : (fs gs : List BitField) (a b c : List ℕ) → Takes fs a b → Takes gs b c → Takes (fs ++ gs) a c
Takes-then fs gs a b c p q = record {
  front = p.front ++ q.front;
  whole = p.whole ∙ ap (λ (t : List ℕ). p.front ++ t) q.whole ∙ sym (append_assoc p.front q.front c);
  front_fits = IsBytes-append p.front q.front p.front_fits q.front_fits;
  rest_fits = q.rest_fits;
  holds = Holds-join IsRead fs gs p.front q.front p.front_fits q.front_fits p.holds q.holds;
}

-- a number that was read, and where it stood
pub record IsNumber (count : ℕ) (bytes : List ℕ) (n : ℕ) (rest : List ℕ) : Type 0 where
  pub front : List ℕ
  pub whole : bytes ≡ front ++ rest
  pub len : length front ≡ count
  pub value : big_endian_splice_number front ≡ n
  pub below : n < 2 ^ (8 * count)
  pub front_fits : IsBytes front
  pub rest_fits : IsBytes rest

pub number_takes : (count : ℕ) (bytes : List ℕ) (n : ℕ) (rest : List ℕ) → IsBytes bytes → number_at count bytes ≡ Ok (n, rest) → IsNumber count bytes n rest
number_takes count bytes n rest fits e = grind (arith, IsBytes-drop, IsBytes-take, length-take, number_fits, take-append-drop)

-- a number that the fields take apart
pub group_takes : (count : ℕ) (fields : List BitField) (bytes : List ℕ) (n : ℕ) (rest : List ℕ) → IsNumber count bytes n rest → 8 * count ≡ width fields → Splits IsRead fields n → Takes fields bytes rest
group_takes count fields bytes n rest read size split = grind arith

-- ---- Read again

-- the fields lie in these bytes
pub record Lies (fields : List BitField) (bytes : List ℕ) : Type 0 where
  pub fits : IsBytes bytes
  pub holds : HoldsFields IsRead fields bytes

pub record Again {A : Type 0} (read : Result (A × List ℕ) SpliceFault) (value : A) (after : List BitField) : Type 0 where
  pub rest : List ℕ
  pub is : read ≡ Ok (value, rest)
  pub lies : Lies after rest

-- a group of fields, and the number that they take apart
pub record Group (count : ℕ) (fields after : List BitField) (bytes : List ℕ) : Type 0 where
  pub value : ℕ
  pub split : Splits IsRead fields value
  pub below : value < 2 ^ (8 * count)
  pub long : count ≤ length bytes
  pub again : Again (number_at count bytes) value after

-- what is in front, and what follows
pub parts : (count : ℕ) (fields after : List BitField) (bytes : List ℕ) → 8 * count ≡ width fields → Lies (fields ++ after) bytes → (count ≤ length bytes) × (Lies fields (take count bytes) × Lies after (drop count bytes))
parts count fields after bytes size lies =
    let long : count ≤ length bytes = omega (arith, lies.holds.count, width-append fields after) in
    let front_fits = IsBytes-take count bytes lies.fits in
    let rest_fits = IsBytes-drop count bytes lies.fits in
    let len : 8 * length (take count bytes) ≡ width fields = omega (arith, length-take count bytes) in
    let both = Holds-parts IsRead fields after (take count bytes) (drop count bytes) front_fits rest_fits len (subst (λ (xs : List ℕ). HoldsFields IsRead (fields ++ after) xs) (sym (take-append-drop count bytes)) lies.holds) in
    (long, (record { fits = front_fits; holds = both.0 }, record { fits = rest_fits; holds = both.1 }))

pub group_again : (count : ℕ) (fields after : List BitField) (bytes : List ℕ) → 8 * count ≡ width fields → Lies (fields ++ after) bytes → Group count fields after bytes
group_again count fields after bytes size lies =
    let p = parts count fields after bytes size lies in
    let short : ltb (length bytes) count ≡ false = le-ltb _ _ p.0 in
    record {
      value = big_endian_splice_number (take count bytes);
      split = p.1.0.holds.split;
      below = number_fits (take count bytes) (8 * count) p.1.0.fits (p.1.0.holds.count ∙ sym size);
      long = p.0;
      again = record { rest = drop count bytes; is = rw short refl; lies = p.1.1 };
    }

-- the highest of five bytes
pub first_of_five : (bytes : List ℕ) (n : ℕ) (rest : List ℕ) → IsBytes bytes → number_at 5 bytes ≡ Ok (n, rest) → (after : List ℕ) × (number_at 1 bytes ≡ Ok (n / 2 ^ 32, after))
first_of_five bytes n rest fits e =
    let g = guard_ok (ltb (length bytes) 5) CommandLength (big_endian_splice_number (take 5 bytes), drop 5 bytes) (n, rest) e in
    let long : 5 ≤ length bytes = ltb-false _ _ g.0 in
    let n-is : big_endian_splice_number (take 5 bytes) ≡ n = ap (λ (p : ℕ × List ℕ). p.0) g.1 in
    let short : ltb (length bytes) 1 ≡ false = le-ltb _ _ (omega arith) in
    let front = take 5 bytes in
    let fits5 = IsBytes-take 5 bytes fits in
    let len : length front ≡ 5 = omega (arith, length-take 5 bytes) in
    let len4 : 8 * length (drop 1 front) ≡ 32 = omega (arith, length-drop 1 front) in
    let two : big_endian_splice_number front ≡ big_endian_splice_number (take 1 front) * 2 ^ 32 + big_endian_splice_number (drop 1 front) = ap big_endian_splice_number (sym (take-append-drop 1 front)) ∙ number-two (take 1 front) (drop 1 front) 32 len4 in
    let low = number_fits (drop 1 front) 32 (IsBytes-drop 1 front fits5) len4 in
    let high : big_endian_splice_number (take 1 front) ≡ n / 2 ^ 32 = omega arith in
    let same : big_endian_splice_number (take 1 bytes) ≡ big_endian_splice_number (take 1 front) = ap big_endian_splice_number (sym (take-take 1 5 bytes (omega arith))) in
    (drop 1 bytes, rw short (ap (λ (k : ℕ). Ok (k, drop 1 bytes)) (same ∙ high)))
