use Rattle.std.proofs.Common.{◌≡◌, ◌∙◌, ap, pos, ◌+ℤ◌, ◌-ℤ◌, to_z, of_z, arith}
use mir.Syntax.{w128}
use Rattle.std.specs.Int.{int_min}
use Rattle.std.proofs.lemmas.Int.{ints, clamps}
use Rattle.break_finder.specs.Entrances.{is_within}
use Rattle.break_finder.proofs.SpanLaws.{end_window}
use Rattle.break_finder.proofs.spans.late_break_entrance_before.Goals as goal

pub returns : goal.returns
returns c = λ instant.
    let tolerance = pos c.args.tolerance in
    let to = int_min (c.args.start +ℤ tolerance +ℤ pos 1) (c.args.end -ℤ tolerance) in
    let is : to ≡ to_z w128 (of_z w128 c.min.result) = omega (arith, ints, clamps) in
    end_window instant _ _ _ ∙ ap (λ late. is_within (c.args.start -ℤ tolerance) late instant) is
