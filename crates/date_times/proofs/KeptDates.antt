-- A date is told by its ten bytes, whatever stands after them.
use Rattle.std.proofs.Common.{◌≡◌, ℕ, ◌≤◌, ◌<◌, Bool, true, false, List, [], ◌∷◌, take, length, refl, arith, ℤ, to_z, of_z, w64}
use Rattle.std.specs.Prelude.{nat_le}
use Rattle.std.proofs.lemmas.Bool.{leb-true, le-leb, and_parts}
use Rattle.std.proofs.lemmas.Int.{to_z-of_z}
use Rattle.jiff_core.proofs.SignedLemmas.{signed_arith}
use Rattle.date_times.specs.Instant.{has_date_form, is_date}
use Rattle.date_times.specs.Instant.{IsDayOf}
use Rattle.date_times.proofs.TimeForms.{date_parts}

of_ten : (a b c d e f g h i j : ℕ) (rest : List ℕ) → is_date (a ∷ (b ∷ (c ∷ (d ∷ (e ∷ (f ∷ (g ∷ (h ∷ (i ∷ (j ∷ rest)))))))))) ≡ is_date (a ∷ (b ∷ (c ∷ (d ∷ (e ∷ (f ∷ (g ∷ (h ∷ (i ∷ (j ∷ []))))))))))
of_ten a b c d e f g h i j rest = grind (arith, le-leb)

-- the first ten bytes of a text are a date just if a date stands at its front, of the same day
pub of_first_ten : (text : List ℕ) → 10 ≤ length text → (is_date (take 10 text) ≡ is_date text) × ((day : ℤ) → IsDayOf (take 10 text) day → IsDayOf text day)
of_first_ten [] n = absurd (omega (arith, n))
of_first_ten (a ∷ []) n = absurd (omega (arith, n))
of_first_ten (a ∷ (b ∷ [])) n = absurd (omega (arith, n))
of_first_ten (a ∷ (b ∷ (c ∷ []))) n = absurd (omega (arith, n))
of_first_ten (a ∷ (b ∷ (c ∷ (d ∷ [])))) n = absurd (omega (arith, n))
of_first_ten (a ∷ (b ∷ (c ∷ (d ∷ (e ∷ []))))) n = absurd (omega (arith, n))
of_first_ten (a ∷ (b ∷ (c ∷ (d ∷ (e ∷ (f ∷ [])))))) n = absurd (omega (arith, n))
of_first_ten (a ∷ (b ∷ (c ∷ (d ∷ (e ∷ (f ∷ (g ∷ []))))))) n = absurd (omega (arith, n))
of_first_ten (a ∷ (b ∷ (c ∷ (d ∷ (e ∷ (f ∷ (g ∷ (h ∷ [])))))))) n = absurd (omega (arith, n))
of_first_ten (a ∷ (b ∷ (c ∷ (d ∷ (e ∷ (f ∷ (g ∷ (h ∷ (i ∷ []))))))))) n = absurd (omega (arith, n))
of_first_ten (a ∷ (b ∷ (c ∷ (d ∷ (e ∷ (f ∷ (g ∷ (h ∷ (i ∷ (j ∷ rest)))))))))) n = grind (arith, of_ten)

not_so : (b : Bool) → (b ≡ true → ⊥) → b ≡ false
not_so true f = absurd (f refl)
not_so false f = refl

-- a shorter text has no date
pub no_date : (text : List ℕ) → length text < 10 → is_date text ≡ false
no_date text n = not_so (is_date text) (λ h.
    let form : has_date_form text ≡ true = (and_parts _ _ h).0 in
    let long = leb-true 10 (length text) (and_parts (nat_le 10 (length text)) _ (date_parts text form).2).0 in
    omega (arith, n, long))

-- the number of a day fits a signed number of 64 bits
pub day_fits : (text : List ℕ) (day : ℤ) → IsDayOf text day → to_z w64 (of_z w64 day) ≡ day
day_fits text day h = let bound = h.2 in to_z-of_z w64 day (omega (arith, signed_arith, bound))
