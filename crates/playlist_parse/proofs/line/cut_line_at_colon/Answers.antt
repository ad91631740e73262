use Rattle.std.proofs.Common.{arith}
use Rattle.std.proofs.lemmas.Grind.{common_steps}
use Rattle.playlist_parse.proofs.Colons.{no_colon, colon_ends, cut}
use Rattle.playlist_parse.proofs.line.cut_line_at_colon.Goals as goal

pub range_from-requires : goal.range_from-requires
range_from-requires c = grind (arith, common_steps, colon_ends)

pub returns-in-None : goal.returns-in-None
returns-in-None c = no_colon c.args.text.now (rw c.as_bytes.ensures.value at c.in-None.ensures)

pub returns-in-Some : goal.returns-in-Some
returns-in-Some c =
    let h = rw c.as_bytes.ensures.value at c.in-Some.ensures in
    cut _ _ _ _ h c.range.ensures.value c.range_from.ensures.value
