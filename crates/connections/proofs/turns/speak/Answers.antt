use Rattle.std.proofs.Common.{rules, arith}
use Rattle.connections.specs.declared.devices.Passage.TheVariants.{WouldWait}
use Rattle.connections.proofs.FewCalls.{called_each, called_same_then, called_then, told_once}
use Rattle.connections.proofs.Leading.{and_then}
use Rattle.connections.proofs.Turning.{moved_none, moved_more, said_more, sent_none, sent_more, told_more}
use Rattle.connections.proofs.turns.speak.Goals as goal

pub returns-in-Failed-clause-run : goal.returns-in-Failed-clause-run
returns-in-Failed-clause-run g c = and_then _ _ _ c.loop-index.invariant.run c.say.ensures.run

pub returns-in-Waits-clause-few : goal.returns-in-Waits-clause-few
returns-in-Waits-clause-few g c = called_then c.loop-index.index _ _ _ _ c.loop-index.invariant.moved (WouldWait, (c.say.ensures.waits c.in-Waits.is).one) (omega arith)

pub returns-in-Nothing-clause-few : goal.returns-in-Nothing-clause-few
returns-in-Nothing-clause-few g c = called_same_then (g.T.Outgoing.stand) c.loop-index.index _ _ _ _ c.loop-index.invariant.moved (c.say.ensures.unwritten c.in-Nothing.is) (omega arith)

pub returns-in-Failed-clause-few : goal.returns-in-Failed-clause-few
returns-in-Failed-clause-few g c = called_then c.loop-index.index _ _ _ _ c.loop-index.invariant.moved (told_once c.in-Failed.fault _ _ c.in-Failed.ensures.fault) (omega arith)

pub returns-clause-few : goal.returns-clause-few
returns-clause-few g c = called_each c.loop-index.index _ _ _ c.loop-index.invariant.moved (omega arith)

pub loop-index-init : goal.loop-index-init
loop-index-init g c = record {
  moved = moved_none _;
  spoken = search rules;
  sent = sent_none c.args.seat.now c.args.connections.now;
  asked = λ h. h;
  run = search rules;
}

pub loop-index-preserved : goal.loop-index-preserved
loop-index-preserved g c = record {
  moved = moved_more c.loop-index.index _ _ _ _ c.loop-index.invariant.moved (c.say.ensures.some c.in-Some.is).took_it.some (c.say.ensures.some c.in-Some.is).took_it.one;
  spoken = said_more _ _ _ c.args.seat.now _ _ _ c.loop-index.invariant.spoken (c.say.ensures.some c.in-Some.is);
  sent = sent_more c.loop-index.index _ _ c.args.seat.now c.args.connections.now c.loop-index.connections c.say.new.connections c.loop-index.invariant.sent (c.say.ensures.some c.in-Some.is);
  asked = told_more _ _ c.args.seat.now c.args.connections.now c.loop-index.connections c.say.new.connections c.loop-index.invariant.asked (c.say.ensures.some c.in-Some.is);
  run = and_then _ _ _ c.loop-index.invariant.run c.say.ensures.run;
}
