use Rattle.std.proofs.Common.{rules}
use Rattle.std.proofs.lemmas.Fn.{filter_same}
use Rattle.connections.specs.Lines.{is_other}
use Rattle.connections.proofs.line.client_leaves_line.Goals as goal

pub returns : goal.returns
returns c = filter_same _ (is_other c.args.place) _ (λ x b f' t. search rules) _ _ c.retain.ensures.filtered
