use Rattle.std.proofs.Common.{subst, arith}
use Rattle.std.proofs.lemmas.Grind.{common_steps}
use Rattle.playlist_kept.specs.Kept.{IsKeptUnderBase}
use Rattle.playlist_parse.proofs.GoingTo.{none_taken, on_ok}
use Rattle.playlist_parse.proofs.source.take_over_source_lines.Goals as goal

pub read_front_of_source_lines-requires : goal.read_front_of_source_lines-requires
read_front_of_source_lines-requires c = subst (IsKeptUnderBase c.args.base.now) c.in-Some.is c.requires

pub returns-in_default : goal.returns-in_default
returns-in_default c = grind (arith, common_steps, none_taken)

pub returns-in-Some-read_front_of_source_lines : goal.returns-in-Some-read_front_of_source_lines
returns-in-Some-read_front_of_source_lines c = record {
  reached = grind (arith, on_ok);
  plain = c.take_over_source_lines_after.ensures.plain;
  taken = grind (arith, common_steps);
}

pub returns-in-None : goal.returns-in-None
returns-in-None c = grind (arith, common_steps, none_taken)
