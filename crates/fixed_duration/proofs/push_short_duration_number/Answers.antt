use Rattle.std.proofs.Common.{◌++◌, ◌/◌, ◌%◌, ap, ◌∙◌, sym, arith, append_assoc, string_bytes}
use Rattle.std.specs.Prelude.{decimal}
use Rattle.std.proofs.lemmas.Fmt.{decimal_digit, decimal_step}
use Rattle.fixed_duration.proofs.push_short_duration_number.Goals as goal

pub returns : goal.returns
returns c =
    let n = c.args.number in
    let s = string_bytes c.args.out.now in
    let parts = ap (λ t. decimal (n / 10) ++ t) (decimal_digit (n % 10) (omega arith)) ∙ sym (decimal_step n (omega arith) (omega (arith, c.requires.short))) in
    c.push_duration_digit-3.ensures.text ∙ ap (λ t. t ++ decimal (n % 10)) c.push_duration_digit-2.ensures.text ∙ append_assoc s (decimal (n / 10)) (decimal (n % 10)) ∙ ap (λ t. s ++ t) parts
