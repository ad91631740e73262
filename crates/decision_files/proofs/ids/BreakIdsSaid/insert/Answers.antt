use Rattle.decision_files.proofs.SaidIds.{first_said, ids_said}
use Rattle.decision_files.proofs.ids.BreakIdsSaid.insert.Goals as goal

pub returns-clause-first : goal.returns-clause-first
returns-clause-first c =
    first_said c.in_ok-key.key c.self.inside.ids.keys c.args.id.now c.args.self.now c.in_ok-insert.field-0 c.in_ok-key.ensures.ok c.self.view_is c.in_ok-insert.ensures.added

pub returns-clause-ids : goal.returns-clause-ids
returns-clause-ids c =
    ids_said c.in_ok-key.key c.self.inside.ids.keys c.insert.new.self.keys c.args.id.now c.args.self.now c.in_ok-insert.field-0 c.in_ok-key.ensures.ok c.self.view_is c.in_ok-insert.ensures.added c.in_ok-insert.ensures.keys
