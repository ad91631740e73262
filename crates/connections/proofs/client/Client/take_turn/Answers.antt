use Rattle.connections.proofs.FewCalls.{few_heard, few_told, few_both}
use Rattle.connections.proofs.client.Client.take_turn.Goals as goal
use Rattle.connections.proofs.client.Client.take_turn.Goals.{then-is_asking+in-Done, else-is_asking}

pub returns-in_default-clause-short : goal.returns-in_default-clause-short
returns-in_default-clause-short g c = λ _. few_heard g.T.Incoming.stand g.T.Outgoing.stand c.args.self.now.device c.self.inside.device c.listen.new.device (cc) c.listen.ensures.few

pub returns-clause-short : goal.returns-clause-short
returns-clause-short g c = λ _.
    elim c.if-is_asking.branch [
      | then-is_asking+in-Done w ↦
          few_both g.T.Incoming.stand g.T.Outgoing.stand c.args.self.now.device c.self.inside.device w.listen.new.device c.if-is_asking.self-inside.device c.speak.new.device (cc) w.listen.ensures.few (cc) c.speak.ensures.few
      | else-is_asking w ↦
          few_told g.T.Incoming.stand g.T.Outgoing.stand c.args.self.now.device c.self.inside.device c.if-is_asking.self-inside.device c.speak.new.device (cc) (cc) c.speak.ensures.few
    ]
