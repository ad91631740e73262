use Rattle.std.proofs.Common.{ap}
use Rattle.date_times.specs.Instant.{instant_of}
use Rattle.segment_state.proofs.Timed.{stated, unstated, with_time, timed, untimed}
use Rattle.segment_state.proofs.ReaderState.time_tag.Goals as goal

pub returns-in_default-clause-takes : goal.returns-in_default-clause-takes
returns-in_default-clause-takes c = λ before e.
    let none = unstated (instant_of c.args.rest.now) _ c.read.result c.read.ensures c.in_default.not-Ok in
    (untimed c.args.self.now.base before c.args.rest.now none, c.self.view_is)

pub returns-clause-takes : goal.returns-clause-takes
returns-clause-takes c =
    timed c.args.rest.now c.in-Ok.instant c.args.self.now _ (stated (instant_of c.args.rest.now) _ c.in-Ok.instant c.in-Ok.ensures) (ap (with_time c.in-Ok.instant) c.self.view_is)
