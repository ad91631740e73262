use Rattle.std.proofs.Common.{◌≡◌, ◌≤◌, ◌<◌, ◌+◌, length, get_or, take, true, ap, ◌∙◌, arith}
use Rattle.std.specs.List.{list_all}
use Rattle.std.specs.Option.{ok_or}
use Rattle.std.specs.Char.{is_ascii_digit}
use Rattle.std.specs.Str.Parse.{digits_value}
use Rattle.std.proofs.lemmas.Grind.{common_steps}
use Rattle.attr_list.specs.Numbers.{decimal_of}
use Rattle.attr_list.specs.declared.AttrFault.TheVariants.{BadNumber}
use Rattle.attr_list.proofs.NumberLemmas.{last_digit}
use Rattle.attr_list.proofs.numbers.read_decimal.Goals as goal

pub returns-in-Some : goal.returns-in-Some
returns-in-Some c =
    let ds = c.as_bytes-digits.result.now in
    let n = c.min.result in
    let within : n < length ds = grind (arith, common_steps) in
    let most : (length ds ≤ n + 1) × (n ≤ 19) = grind (arith, common_steps) in
    let value : c.in_ok-value.value ≡ digits_value 10 (take n ds) = grind (arith, common_steps) in
    let digits : list_all is_ascii_digit (take n ds) ≡ true = grind (arith, common_steps) in
    let at : c.in-Some.digit.now ≡ get_or ds n 0 = grind (arith, common_steps) in
    c.ok_or.ensures.value ∙ ap (λ o. ok_or o BadNumber) (last_digit ds n c.in_ok-value.value c.in-Some.digit.now c.with_decimal_digit.result within most.0 most.1 value digits at c.with_decimal_digit.ensures ∙ ap decimal_of c.as_bytes-digits.ensures.value)
