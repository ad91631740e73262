use Rattle.std.proofs.Common.{◌≡◌, ℕ, ◌<◌, true, List, [], ◌∷◌, arith}
use Rattle.std.specs.Prelude.{None, zero, suc}
use Rattle.std.specs.List.{list_all}
use Rattle.std.specs.Char.{is_ascii_digit}
use Rattle.std.specs.Str.{IsUtf8, IsAscii}
use Rattle.std.proofs.lemmas.Str.{IsUtf8-from_ascii}
use Rattle.std.proofs.lemmas.Bool.{and_parts}
use Rattle.std.proofs.lemmas.Bool.Decides.{nat_tests}
use Rattle.attr_list.specs.Numbers.{decimal_of}
use Rattle.http_messages.proofs.head.content_length_said.Goals as goal

low : (b : ℕ) → is_ascii_digit b ≡ true → b < 128
low b h = grind (arith, nat_tests)

digits_are_ascii : (t : List ℕ) → list_all is_ascii_digit t ≡ true → IsAscii t
digits_are_ascii [] h i = omega arith
digits_are_ascii (b ∷ t) h zero = low b (and_parts _ _ h).0
digits_are_ascii (b ∷ t) h (suc i) = digits_are_ascii t (and_parts _ _ h).1 i

no_decimal : (t : List ℕ) → ¬ (IsUtf8 t) → None ≡ decimal_of t
no_decimal t not_utf8 = grind (arith, IsUtf8-from_ascii, digits_are_ascii)

pub returns-in-Err : goal.returns-in-Err
returns-in-Err c = no_decimal c.args.value.now c.in-Err.ensures.cases.0
