use Rattle.std.proofs.Common.{ap, sym, subst}
use Rattle.std.specs.Prelude.{is_some}
use Rattle.std.specs.Option.{option_copied}
use Rattle.vod_run.specs.Events.{fault_of_decisions}
use Rattle.vod_run.specs.Inner.Given.{IsGivenFile}
use Rattle.vod_run.specs.Vod.{IsInOrder}
use Rattle.vod_run.proofs.Given.{has_decided, undecided, in_decisions, after_base}
use Rattle.vod_run.proofs.WholeRun.{handed_on}
use Rattle.vod_run.proofs.run.decided_vod_channel.Goals as goal

pub returns-in_err-decide-clause-kind : goal.returns-in_err-decide-clause-kind
returns-in_err-decide-clause-kind c =
    handed_on _ _ _ c.from_residual-in_err-decide.ensures.1
    (in_decisions _ _ (undecided _ _ _ c.in_ok-channel.ensures.ok.3 _ c.in_err-decide.ensures.changes))

pub returns-in_err-decide-clause-order : goal.returns-in_err-decide-clause-order
returns-in_err-decide-clause-order c =
    let fault = c.in_err-decide.field-0.0 in
    handed_on _ _ _ c.from_residual-in_err-decide.ensures.1
    (subst (λ file. IsInOrder (fault_of_decisions fault) c.args.base.now (option_copied file)) (sym c.in-Some.is)
    (after_base _ _ _ (ap is_some c.in_ok-channel.ensures.ok.0)
    (undecided _ _ _ c.in_ok-channel.ensures.ok.3 _ c.in_err-decide.ensures.changes)))

pub returns-clause-ok : goal.returns-clause-ok
returns-clause-ok c =
    let made = c.in_ok-channel.ensures.ok in
    subst (λ file. IsGivenFile c.args.base.now (option_copied file) c.decide.new.self) (sym c.in-Some.is)
    (has_decided _ _ _ made.3 _ made.0 made.1 c.in_ok-decide.ensures.changes c.in_ok-decide.ensures.stands)
