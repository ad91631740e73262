-- Numbers in a fixed number of digits.
use Rattle.std.specs.Prelude.{ℕ, zero, suc, ◌/◌, ◌%◌, true, List, [], ◌∷◌, ◌++◌}
use Rattle.std.specs.Fmt.{digit_glyph}

-- the last so many digits of a number in this base, zeros in front among them, letters in upper case
unfoldable pub fixed_digits : ℕ → ℕ → ℕ → List ℕ
fixed_digits base zero n = []
fixed_digits base (suc k) n = fixed_digits base k (n / base) ++ digit_glyph true (n % base) ∷ []
