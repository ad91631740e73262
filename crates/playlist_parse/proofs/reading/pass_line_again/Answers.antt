use Rattle.std.proofs.Common.{rules, arith}
use Rattle.std.proofs.lemmas.Grind.{common_steps}
use Rattle.playlist_parse.proofs.Again.{reached_again, told_again}
use Rattle.playlist_parse.proofs.reading.pass_line_again.Goals as goal

pub returns-clause-reached : goal.returns-clause-reached
returns-clause-reached c = λ base tail all r. reached_again tail all (c.requires.plain (search rules)) (c.repeats.ensures.again (search rules)) r

pub returns-clause-light : goal.returns-clause-light
returns-clause-light c = grind (arith, common_steps, told_again)
