use Rattle.std.proofs.Common.{◌≡◌, rules, ◌++◌, ap}
use Rattle.std.specs.Prelude.{Some}
use Rattle.segment_state.specs.Running.{Running}
use Rattle.segment_state.proofs.Joined.{joined_known}
use Rattle.segment_state.proofs.ReaderState.take_joined.Goals as goal

pub returns-clause-takes : goal.returns-clause-takes
returns-clause-takes c = λ before e.
    let known : c.self.inside.uri_front ≡ Some c.args.front = search rules in
    let is = joined_known c.self.inside.references c.args.self.now.base c.self.inside.uri_front c.args.front c.self.inside.segments.uri_front c.args.reference.now (ap {A = Running} (λ r. r.base) c.self.view_is) c.self.invariant.3 known c.requires.plain in
    (c.self.inside.segments.uri_front ++ c.args.reference.now, search (rules, is), search (rules, is))
