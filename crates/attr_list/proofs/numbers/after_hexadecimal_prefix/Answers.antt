use Rattle.std.proofs.Common.{arith, ◌<◌, get_or}
use Rattle.std.proofs.lemmas.Str.{lead_after_ascii}
use Rattle.attr_list.proofs.numbers.after_hexadecimal_prefix.Goals as goal

pub range_from-requires : goal.range_from-requires
range_from-requires c =
    let ascii : get_or c.args.text.now 1 0 < 128 = grind arith in
    λ _. (omega arith, λ l h. lead_after_ascii c.args.text.now 1 c.utf8.text ascii l h)
