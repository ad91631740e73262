use Rattle.std.proofs.Common.{arith, ap}
use Rattle.std.proofs.lemmas.Grind.{common_steps}
use Rattle.playlist_kept.specs.Kept.{with_taken}
use Rattle.playlist_parse.proofs.Again.{line_again, shorter}
use Rattle.playlist_parse.proofs.progress.Progress.repeats.Goals as goal

pub overflow_sub-left : goal.overflow_sub-left
overflow_sub-left c = shorter _ c.in-Some.ensures.again.line _ c.in-Some.ensures.again.is

pub go_to_reference-requires : goal.go_to_reference-requires
go_to_reference-requires c = grind (arith, common_steps, shorter)

pub returns-clause-again : goal.returns-clause-again
returns-clause-again c = λ _.
    line_again _ _ _ _ _ _ _ _ _ _ _ c.stand-start.ensures.lines c.go_to_reference.ensures c.self.view_is (ap (λ rows. with_taken c.self.inside.front rows c.self.inside.taken.now) c.duration_again.ensures.segments) c.in-Some.ensures.again
