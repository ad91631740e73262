use Rattle.connections.proofs.FewCalls.{called_once, called_once_before, called_none_before}
use Rattle.connections.proofs.client.Client.end.Goals as goal
use Rattle.connections.proofs.client.Client.end.Goals.{else-was_granted-via-then-was_granted+else-is_client_read_out, else-was_granted-via-else-was_granted}

pub returns-then-is_client_read_out-clause-few : goal.returns-then-is_client_read_out-clause-few
returns-then-is_client_read_out-clause-few g c = called_once g.T.Incoming.stand 32 c.args.self.now.device c.self.inside.device _ (cc) c.is_client_read_out.ensures.once

pub returns-clause-few : goal.returns-clause-few
returns-clause-few g c =
    elim c.else-was_granted.branch [
      | else-was_granted-via-then-was_granted+else-is_client_read_out w ↦
          called_once_before g.T.Incoming.stand 32 c.args.self.now.device c.self.inside.device _ _ _ (cc) w.is_client_read_out.ensures.once (cc) c.drain.ensures.few
      | else-was_granted-via-else-was_granted w ↦
          called_none_before g.T.Incoming.stand 32 c.args.self.now.device c.self.inside.device _ _ (cc) (cc) c.drain.ensures.few
    ]
