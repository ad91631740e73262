-- Digits, and the digits of a fraction.
use Rattle.std.proofs.Common.{◌≡◌, ℕ, zero, suc, ◌+◌, ◌-◌, ◌*◌, ◌/◌, ◌%◌, ◌^◌, ◌<◌, ◌≤◌, true, false, List, [], ◌∷◌, ◌++◌, length, get_or, take, replicate, IsTrue, ap, refl, subst, arith, rules, add-one}
use Rattle.std.proofs.lemmas.Grind.{common_steps}
use Rattle.std.proofs.lemmas.Bool.Decides.{nat_tests}
use Rattle.std.proofs.lemmas.List.Sums.{AllPass-from_list_all}
use Rattle.std.proofs.lemmas.Str.{digit_value_digit}
use Rattle.std.proofs.lemmas.List.{get_or-replicate}
use Rattle.std.proofs.lemmas.Int.Digits.{digits_value_more}
use Rattle.std.proofs.Math.Nat.{pow-suc, pow-le-pow_right, mod-lt, div-div-eq-div-mul, zero-div, zero-mod}
use Rattle.std.specs.Prelude.{◌==◌, ◌&&◌}
use Rattle.std.specs.List.{list_all}
use Rattle.std.specs.Char.{is_ascii_digit}
use Rattle.std.specs.Int.{IsInRange}
use Rattle.std.specs.Str.Parse.{digits_value}
use Rattle.fixed_duration.specs.Text.{last_digits, fraction_digits}

-- a byte that passes the test is a digit
pub digit_from_test : (c : ℕ) → is_ascii_digit c ≡ true → IsInRange 48 57 c
digit_from_test c h = search rules

-- the byte at a place of a text of digits
pub digit_in : (ds : List ℕ) (i : ℕ) → IsTrue (list_all is_ascii_digit ds) → i < length ds → IsInRange 48 57 (get_or ds i 0)
digit_in ds i h below = digit_from_test _ (AllPass-from_list_all is_ascii_digit ds (search rules) i 0 below)

-- one digit more
pub value_more : (ds : List ℕ) (i : ℕ) → IsInRange 48 57 (get_or ds i 0) → i < length ds → digits_value 10 (take (i + 1) ds) ≡ digits_value 10 (take i ds) * 10 + (get_or ds i 0 - 48)
value_more ds i digit below = grind (arith, digit_value_digit, get_or, digits_value_more)

-- the digits filled up with zeros
pub length-filled : (n : ℕ) (ds : List ℕ) → length (take n (ds ++ replicate n 48)) ≡ n
length-filled n ds = grind (arith, common_steps)

pub filled_zero : (n i : ℕ) (ds : List ℕ) → i < n → length ds ≤ i → get_or (take n (ds ++ replicate n 48)) i 0 ≡ 48
filled_zero n i ds h past = grind (arith, common_steps, get_or-replicate)

pub filled_whole : (n : ℕ) (ds : List ℕ) → take n (take n (ds ++ replicate n 48)) ≡ take n (ds ++ replicate n 48)
filled_whole n ds = grind (arith, common_steps)

-- ten to a power of at most eight
pub small_power : (i : ℕ) → i ≤ 8 → 10 ^ i ≤ 100000000
small_power i h = let p : 10 ^ i ≤ 10 ^ 8 = pow-le-pow_right {n = 10} (omega arith) h in p

pub next_power : (i : ℕ) → 10 ^ (i + 1) ≡ 10 * 10 ^ i
next_power i = let e = pow-suc 10 i in rw add-one (omega (arith, e))

pub power_positive : (k : ℕ) → 0 < 10 ^ k
power_positive k = let p : 10 ^ 0 ≤ 10 ^ k = pow-le-pow_right {n = 10} (omega arith) {i = 0} {j = k} (omega arith) in p

cut_tens : (n m : ℕ) → ((n % (10 * m)) / 10 ≡ (n / 10) % m) × ((n % (10 * m)) % 10 ≡ n % 10)
cut_tens n m = grind arith

pub power_more : (k : ℕ) → 10 ^ suc k ≡ 10 * 10 ^ k
power_more k = let e = pow-suc 10 k in omega (arith, e)

pub last_digits-step : (k n : ℕ) → n < 10 ^ suc k → last_digits (suc k) n ≡ (48 + n / 10 ^ k) ∷ last_digits k (n % 10 ^ k)
unfolding last_digits
last_digits-step zero n h = let d : n % 10 ≡ n / 1 = omega arith in ap (λ d. (48 + d) ∷ []) d
last_digits-step (suc k) n h =
    let more = power_more (suc k) in
    let low : n / 10 < 10 ^ suc k = omega (arith, more) in
    let first : n / 10 / 10 ^ k ≡ n / 10 ^ suc k = rw (power_more k) (div-div-eq-div-mul n 10 (10 ^ k)) in
    let rest = rw (← power_more k) at (cut_tens n (10 ^ k)) in
    rw (last_digits-step k (n / 10) low, first, rest.0, rest.1) refl

-- nothing is written of 0
pub fraction_zero : (k : ℕ) → fraction_digits k 0 ≡ []
unfolding last_digits
fraction_zero zero = refl
fraction_zero (suc k) =
    rw (last_digits-step k 0 (power_positive (suc k))) (rw (zero-div (10 ^ k), zero-mod (10 ^ k), fraction_zero k) refl)

kept : (q : ℕ) (ds : List ℕ) → 0 < q + length ds → (48 + q == 48 && length ds == 0) ≡ false
kept q ds h = grind (arith, nat_tests)

digit_or_more : (n m : ℕ) (ds : List ℕ) → 0 < m → 0 < n → (0 < n % m → 0 < length ds) → 0 < n / m + length ds
digit_or_more n m ds p q more = grind arith

-- a digit that is not 0 is written
pub fraction_some : (k n : ℕ) → 0 < n → n < 10 ^ k → 0 < length (fraction_digits k n)
fraction_some zero n p h = absurd (omega (arith, p, h))
fraction_some (suc k) n p h =
    let rest = n % 10 ^ k in
    let ds = fraction_digits k rest in
    let later : 0 < rest → 0 < length ds = λ some. fraction_some k rest some (mod-lt n (power_positive k)) in
    rw (last_digits-step k n h, kept (n / 10 ^ k) ds (digit_or_more n (10 ^ k) ds (power_positive k) p later)) (omega arith)

-- the next digit
pub fraction_step : (k n : ℕ) → 0 < n → n < 10 ^ suc k → fraction_digits (suc k) n ≡ (48 + n / 10 ^ k) ∷ fraction_digits k (n % 10 ^ k)
fraction_step k n p h = grind (arith, fraction_some, mod-lt, power_positive, last_digits-step, kept, digit_or_more)

pub fraction_next : (k n : ℕ) → 0 < k → 0 < n → n < 10 ^ k → fraction_digits k n ≡ (48 + n / 10 ^ (k - 1)) ∷ fraction_digits (k - 1) (n % 10 ^ (k - 1))
fraction_next k n p q h =
    let e : suc (k - 1) ≡ k = omega arith in
    subst (λ m. fraction_digits m n ≡ (48 + n / 10 ^ (k - 1)) ∷ fraction_digits (k - 1) (n % 10 ^ (k - 1))) e (fraction_step (k - 1) n q (rw e h))

-- and it is a digit
pub digit_step : (k n : ℕ) → n < 10 ^ suc k → n / 10 ^ k < 10
digit_step k n h = grind arith

pub next_digit : (k n : ℕ) → 0 < k → n < 10 ^ k → n / 10 ^ (k - 1) < 10
next_digit k n p h = let e : suc (k - 1) ≡ k = omega arith in digit_step (k - 1) n (rw e h)
