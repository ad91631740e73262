use Rattle.adsplice.proofs.Serving.{settled_closed}
use Rattle.adsplice.proofs.server.Server.settle.Goals as goal

pub returns-in-Done-clause-settled : goal.returns-in-Done-clause-settled
returns-in-Done-clause-settled c = settled_closed _ _ _ _ _ c.close.ensures.closed
