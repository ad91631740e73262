use Rattle.std.proofs.Common.{◌++◌, ap, ◌∙◌, sym, arith, string_bytes}
use Rattle.std.proofs.lemmas.Fmt.{decimal_digit}
use Rattle.fixed_duration.proofs.push_duration_digit.Goals as goal

pub returns-clause-text : goal.returns-clause-text
returns-clause-text c =
    let digit = c.push.ensures.ascii (omega (arith, c.requires.digit)) ∙ sym (decimal_digit c.args.digit c.requires.digit) in
    (rw c.unwrap.ensures at c.push.ensures.bytes) ∙ ap (λ x. string_bytes c.args.out.now ++ x) digit
