use Rattle.std.proofs.Common.{rules}
use Rattle.std.proofs.lemmas.Fn.{filter_same}
use Rattle.connections.specs.Arrivals.{is_elsewhere}
use Rattle.connections.proofs.arrivals.remove_client_arrival.Goals as goal

pub returns : goal.returns
returns c = filter_same _ (is_elsewhere c.args.place) _ (λ x b f' t. search rules) _ _ c.retain.ensures.filtered
