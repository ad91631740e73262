use Rattle.std.proofs.Common.{rules, ◌++◌, ap}
use Rattle.segment_state.specs.Running.{Running}
use Rattle.segment_state.proofs.Joined.{joined}
use Rattle.segment_state.proofs.ReaderState.take_after_front.Goals as goal

pub returns-clause-takes : goal.returns-clause-takes
returns-clause-takes c = λ before e.
    let is = joined c.self.inside.references c.args.self.now.base c.args.front c.in-Some.text.now c.args.reference.now (ap {A = Running} (λ r. r.base) c.self.view_is) c.in-Some.ensures c.requires.plain in
    (c.in-Some.text.now ++ c.args.reference.now, search (rules, is), search (rules, is))
