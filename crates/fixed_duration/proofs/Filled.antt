-- The digits of a fraction, filled up with zeros to nine.
use Rattle.std.proofs.Common.{◌≡◌, ℕ, zero, suc, ◌+◌, ◌-◌, ◌*◌, ◌^◌, ◌<◌, ◌≤◌, List, ◌++◌, length, take, replicate, ◌∙◌, ap, sym, arith}
use Rattle.std.proofs.lemmas.Grind.{common_steps}
use Rattle.std.specs.Str.Parse.{digits_value}
use Rattle.fixed_duration.proofs.Digits.{value_more, length-filled, filled_zero, filled_whole, power_more}

-- each zero is ten times more
zeros_more : (ds : List ℕ) (i m : ℕ) → (0 < m → length ds ≤ i) → i + m ≤ 9
    → digits_value 10 (take (i + m) (take 9 (ds ++ replicate 9 48))) ≡ digits_value 10 (take i (take 9 (ds ++ replicate 9 48))) * 10 ^ m
zeros_more ds i zero past few =
    let none : i + zero ≡ i = omega arith in
    let filled = take 9 (ds ++ replicate 9 48) in
    let same = ap (λ k. digits_value 10 (take k filled)) none in
    omega (arith, same)
zeros_more ds i (suc m) past few =
    let filled = take 9 (ds ++ replicate 9 48) in
    let over = past (omega arith) in
    let before = zeros_more ds i m (λ _. over) (omega (arith, few)) in
    let nine = length-filled 9 ds in
    let here = filled_zero 9 (i + m) ds (omega (arith, few)) (omega (arith, over)) in
    let more = value_more filled (i + m) (omega (arith, here), omega (arith, here)) (omega (arith, nine, few)) in
    let next : i + suc m ≡ i + m + 1 = omega arith in
    rw (next, power_more m) (omega (arith, before, more, here))

front_filled : (ds : List ℕ) → take (length (take 9 ds)) (take 9 (ds ++ replicate 9 48)) ≡ take 9 ds
front_filled ds = grind (arith, common_steps)

front_few : (ds : List ℕ) → (length (take 9 ds) ≤ 9) × (0 < 9 - length (take 9 ds) → length ds ≤ length (take 9 ds))
front_few ds = (grind (arith, common_steps), λ h. grind (arith, common_steps, h))

-- the first nine digits, times ten for each that lacks
pub filled_value : (ds : List ℕ) → digits_value 10 (take 9 ds) * 10 ^ (9 - length (take 9 ds)) ≡ digits_value 10 (take 9 (ds ++ replicate 9 48))
filled_value ds =
    let i = length (take 9 ds) in
    let filled = take 9 (ds ++ replicate 9 48) in
    let few = front_few ds in
    let whole : i + (9 - i) ≡ 9 = omega (arith, few.0) in
    let more = zeros_more ds i (9 - i) few.1 (omega (arith, few.0)) in
    ap (λ f. digits_value 10 f * 10 ^ (9 - i)) (sym (front_filled ds)) ∙ sym more ∙ ap (λ k. digits_value 10 (take k filled)) whole
    ∙ ap (λ f. digits_value 10 f) (filled_whole 9 ds)

-- it stays below a second
pub filled_below : (ds front : List ℕ) (value power : ℕ) → front ≡ take 9 ds → value < 10 ^ length front → power ≡ 10 ^ (9 - length front) → value * power < 1000000000
filled_below ds front value power is below known = grind arith
