use Rattle.std.proofs.Common.{subst, arith}
use Rattle.std.proofs.lemmas.Grind.{common_steps}
use Rattle.live_channel.specs.Channel.{Channel, channel_with, withdrawn, AlwaysStandsOn, text_in}
use Rattle.live_channel.proofs.Owed.{withdraws}
use Rattle.live_channel.proofs.Deciding.{withdraw_answered}
use Rattle.live_channel.proofs.LastText.{last_still}
use Rattle.live_channel.proofs.channel.Channel.withdraw.Goals as goal

pub invariant_of-self : goal.invariant_of-self
invariant_of-self c =
    let i = c.self.inside in
    let a = withdraw_answered i.base i.tolerance i.state (text_in i.written) i.state.store c.withdraw.new.self c.args.id.now c.withdraw.result c.withdraw.ensures c.self.invariant.0 c.self.invariant.1 in
    let new = record i.state { store = c.withdraw.new.self } in
    grind (arith, common_steps, last_still)

pub returns : goal.returns
returns c =
    let i = c.self.inside in
    let a = withdraw_answered i.base i.tolerance i.state (text_in i.written) i.state.store c.withdraw.new.self c.args.id.now c.withdraw.result c.withdraw.ensures c.self.invariant.0 c.self.invariant.1 in
    record {
      changes = grind (arith, common_steps, withdraw_answered);
      answer = grind (arith, common_steps, withdraw_answered, withdraws);
      stands =
          subst (λ (x : Channel). AlwaysStandsOn x (withdrawn c.args.id.now) (channel_with i.base i.tolerance (record i.state { store = c.withdraw.new.self }) (text_in i.written))) c.self.view_is a.on;
    }
