use Rattle.std.proofs.Common.{◌≡◌, ◌+◌, ◌∙◌, ap, cond, sym, arith}
use Rattle.std.proofs.lemmas.Grind.{common_steps}
use Rattle.break_finder.specs.Entering.{entered}
use Rattle.channel_spec.specs.Marking.{limits}
use Rattle.stitcher.proofs.Outcomes.{if_ok}
use Rattle.channel_window.specs.Marking.{capped_in}
use Rattle.channel_window.proofs.KnownBreaks.{new_run, told_the_same}
use Rattle.channel_window.proofs.marking.Marker.begin.Goals as goal

pub returns-in_default-clause-told : goal.returns-in_default-clause-told
returns-in_default-clause-told c = if_ok c.leave.result c.leave.ensures.mark (λ next is. told_the_same c.args.self.now c.args.count c.args.run.now c.leave.new.run next.mark next.again is.2 c.leave.ensures.known)

pub returns-clause-same : goal.returns-clause-same
returns-clause-same c =
    let m = c.args.self.now in
    let mark : c.in_ok-mark.mark ≡ entered (limits m c.args.run.now.entered) m.store m.breaks c.args.instant = grind (arith, common_steps) in
    sym (new_run m c.args.run.now.before c.args.run.now.entered c.in_ok-mark.mark c.args.instant c.requires.entered mark)

pub returns-clause-goes : goal.returns-clause-goes
returns-clause-goes c =
    let m = c.args.self.now in
    let mark : c.in_ok-mark.mark ≡ entered (limits m c.args.run.now.entered) m.store m.breaks c.args.instant = grind (arith, common_steps) in
    let new = new_run m c.args.run.now.before c.args.run.now.entered c.in_ok-mark.mark c.args.instant c.requires.entered mark in
    let noted = rw c.in-Some.ensures.kept at c.in_ok-again.ensures.noted in
    record {
      before = grind (arith, common_steps);
      entered = grind (arith, common_steps);
      so_far =
          c.window_run_length_capped_at-run.ensures
          ∙ (noted.terms.capped (c.args.duration + 0)
          ∙ ap (λ n. capped_in m.store c.in_ok-mark.mark (c.args.duration + n)) (sym (ap (λ b. cond b c.args.run.now.so_far 0) new)));
    }

pub returns-clause-told : goal.returns-clause-told
returns-clause-told c = record { marked = rw c.in-Some.ensures.kept at c.in_ok-again.ensures.again; stood = rw c.in-Some.ensures.kept at c.in_ok-again.ensures.stood }
