use Rattle.std.proofs.Common.{arith}
use Rattle.std.proofs.lemmas.Grind.{common_steps}
use Rattle.stitcher.proofs.Kept.{passes_run, puts_run}
use Rattle.stitcher.proofs.Outcomes.{handed_on, number_refused, on_ok}
use Rattle.stitcher.proofs.making.Stitching.keep.Goals as goal

pub returns-in_err-last-clause-err : goal.returns-in_err-last-clause-err
returns-in_err-last-clause-err c = grind (arith, common_steps, handed_on, number_refused, passes_run)

pub returns-clause-ok : goal.returns-clause-ok
returns-clause-ok c = grind (arith, common_steps, on_ok, puts_run)
