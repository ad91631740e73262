-- The text of an instant stands on a line.
use Rattle.std.proofs.Common.{◌≡◌, ℕ, zero, suc, ◌+◌, ◌/◌, ◌%◌, ◌<◌, Bool, true, false, cond, List, [], ◌∷◌, ◌++◌, refl, arith}
use Rattle.std.specs.Prelude.{◌==◌, ℤ}
use Rattle.std.specs.List.{list_all}
use Rattle.std.specs.Fmt.{digit_glyph}
use Rattle.std.proofs.lemmas.Bool.{and_from}
use Rattle.std.proofs.lemmas.Bool.Decides.{nat_tests}
use Rattle.std.proofs.lemmas.List.Folds.{list_all-append}
use Rattle.playlist_model.specs.Inner.Lines.{is_printable_playlist_byte}
use Rattle.date_times.specs.Digits.{fixed_digits}
use Rattle.date_times.specs.Times.{instant_from_1900, year_after_days, month_after_days, date_text, decimals, time_text}
use Rattle.playlist_write.proofs.CleanTexts.{Clean, clean_printable}

glyph_printable : (d : ℕ) → d < 10 → is_printable_playlist_byte (digit_glyph true d) ≡ true
glyph_printable d h = grind (arith, nat_tests)

fixed_printable : (k n : ℕ) → list_all is_printable_playlist_byte (fixed_digits 10 k n) ≡ true
unfolding fixed_digits
fixed_printable zero n = refl
fixed_printable (suc k) n = grind (arith, list_all-append, and_from, glyph_printable, fixed_printable k (n / 10))

then_printable : (k n : ℕ) (rest : List ℕ) → list_all is_printable_playlist_byte rest ≡ true → list_all is_printable_playlist_byte (fixed_digits 10 k n ++ rest) ≡ true
then_printable k n rest h = grind (arith, list_all-append, and_from, fixed_printable)

decimals_printable : (b : Bool) (n m : ℕ) → list_all is_printable_playlist_byte (cond b (fixed_digits 10 3 n) (fixed_digits 10 9 m) ++ 90 ∷ []) ≡ true
decimals_printable true n m = then_printable 3 n (90 ∷ []) refl
decimals_printable false n m = then_printable 9 m (90 ∷ []) refl

-- a date and a time of day, and what follows
abbrev stamp : (year month day hour minute second : ℕ) → List ℕ → List ℕ
stamp year month day hour minute second rest =
    date_text year month day (84 ∷ (fixed_digits 10 2 hour ++ 58 ∷ (fixed_digits 10 2 minute ++ 58 ∷ (fixed_digits 10 2 second ++ rest))))

stamp_printable : (year month day hour minute second : ℕ) (rest : List ℕ) → list_all is_printable_playlist_byte rest ≡ true → list_all is_printable_playlist_byte (stamp year month day hour minute second rest) ≡ true
stamp_printable year month day hour minute second rest h = grind (arith, then_printable, and_from)

pub times_are_clean : (t : ℤ) → Clean (time_text t)
times_are_clean t =
    let n = instant_from_1900 t in let found = year_after_days 300 1900 (n / 86400000000000) in let month = month_after_days 12 found.0 1 found.1 in let q = n / 1000000000 % 86400 in
    clean_printable (time_text t) (stamp_printable found.0 month.0 (month.1 + 1) (q / 3600) (q / 60 % 60) (q % 60) (46 ∷ (decimals (n % 1000000000) ++ 90 ∷ [])) (and_from true _ refl (decimals_printable (n % 1000000000 % 1000000 == 0) (n % 1000000000 / 1000000) (n % 1000000000))))
