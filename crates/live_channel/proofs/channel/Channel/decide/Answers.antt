use Rattle.std.proofs.Common.{subst, arith}
use Rattle.std.proofs.lemmas.Grind.{common_steps}
use Rattle.live_channel.specs.Channel.{Channel, channel_with, decided, StandsOn, text_in}
use Rattle.live_channel.proofs.Owed.{decides}
use Rattle.live_channel.proofs.Deciding.{decide_answered}
use Rattle.live_channel.proofs.LastText.{last_still}
use Rattle.live_channel.proofs.channel.Channel.decide.Goals as goal

pub invariant_of-self : goal.invariant_of-self
invariant_of-self c =
    let i = c.self.inside in
    let a = decide_answered i.base i.tolerance i.state (text_in i.written) i.state.store c.decide.new.self c.args.bytes.now c.in_ok-decisions.decisions c.decide.result c.in_ok-decisions.ensures.said c.decide.ensures.changes c.self.invariant.0 c.self.invariant.1 in
    let new = record i.state { store = c.decide.new.self } in
    grind (arith, common_steps, last_still)

pub returns : goal.returns
returns c =
    let i = c.self.inside in
    let a = decide_answered i.base i.tolerance i.state (text_in i.written) i.state.store c.decide.new.self c.args.bytes.now c.in_ok-decisions.decisions c.decide.result c.in_ok-decisions.ensures.said c.decide.ensures.changes c.self.invariant.0 c.self.invariant.1 in
    record {
      changes = grind (arith, common_steps);
      answer = grind (arith, common_steps, decide_answered, decides);
      stands =
          subst (λ (x : Channel). StandsOn x (decided c.args.bytes.now) c.decide.result (channel_with i.base i.tolerance (record i.state { store = c.decide.new.self }) (text_in i.written))) c.self.view_is a.on;
    }
