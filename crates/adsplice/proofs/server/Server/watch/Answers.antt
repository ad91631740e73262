use Rattle.adsplice.proofs.Serving.{settled_unwatched}
use Rattle.adsplice.proofs.server.Server.watch.Goals as goal

pub returns-clause-settled : goal.returns-clause-settled
returns-clause-settled c =
    rw (← c.self.view_is) (settled_unwatched c.args.place c.self.inside.clients _ c.close.new.self c.args.connections.now c.close.new.connections c.watch-watched.ensures c.close.ensures.closed)
