use Rattle.std.proofs.Common.{rules, arith}
use Rattle.connections.specs.declared.devices.Passage.TheVariants.{WouldWait}
use Rattle.connections.proofs.FewCalls.{called_each, called_same_then, called_then, heard_once}
use Rattle.connections.proofs.Leading.{and_then}
use Rattle.connections.proofs.Turning.{moved_none, moved_more, heard_more, read_none, read_more}
use Rattle.connections.proofs.turns.listen.Goals as goal

pub returns-in-Failed-clause-run : goal.returns-in-Failed-clause-run
returns-in-Failed-clause-run g c = and_then _ _ _ c.loop-index.invariant.run c.hear.ensures.run

pub returns-then-not-is_asking-clause-stays : goal.returns-then-not-is_asking-clause-stays
returns-then-not-is_asking-clause-stays g c =
    heard_more _ _ _ c.args.seat.now _ _ _ c.loop-index.invariant.listened c.loop-index.invariant.asking (c.hear.ensures.some c.in-Some.is)

pub returns-then-not-is_asking-clause-run : goal.returns-then-not-is_asking-clause-run
returns-then-not-is_asking-clause-run g c = and_then _ _ _ c.loop-index.invariant.run c.hear.ensures.run

pub returns-in-Waits-clause-few : goal.returns-in-Waits-clause-few
returns-in-Waits-clause-few g c = called_then c.loop-index.index _ _ _ _ c.loop-index.invariant.moved (WouldWait, (c.hear.ensures.waits c.in-Waits.is).one) (omega arith)

pub returns-in-Full-clause-few : goal.returns-in-Full-clause-few
returns-in-Full-clause-few g c = called_same_then (g.T.Incoming.stand) c.loop-index.index _ _ _ _ c.loop-index.invariant.moved (c.hear.ensures.unread c.in-Full.is) (omega arith)

pub returns-in-Failed-clause-few : goal.returns-in-Failed-clause-few
returns-in-Failed-clause-few g c = called_then c.loop-index.index _ _ _ _ c.loop-index.invariant.moved (heard_once c.in-Failed.fault _ _ _ c.in-Failed.ensures.fault) (omega arith)

pub returns-then-not-is_asking-clause-few : goal.returns-then-not-is_asking-clause-few
returns-then-not-is_asking-clause-few g c = called_then c.loop-index.index _ _ _ _ c.loop-index.invariant.moved (_, (c.hear.ensures.some c.in-Some.is).gave_it.one) (omega arith)

pub returns-clause-few : goal.returns-clause-few
returns-clause-few g c = called_each c.loop-index.index _ _ _ c.loop-index.invariant.moved (omega arith)

pub loop-index-init : goal.loop-index-init
loop-index-init g c = record {
  moved = moved_none _;
  listened = search rules;
  asking = search rules;
  read = read_none c.args.seat.now c.args.connections.now;
  run = search rules;
}

pub loop-index-preserved : goal.loop-index-preserved
loop-index-preserved g c = record {
  moved = moved_more c.loop-index.index _ _ _ _ c.loop-index.invariant.moved (c.hear.ensures.some c.in-Some.is).gave_it.some (c.hear.ensures.some c.in-Some.is).gave_it.one;
  listened = heard_more _ _ _ c.args.seat.now _ _ _ c.loop-index.invariant.listened c.loop-index.invariant.asking (c.hear.ensures.some c.in-Some.is);
  asking = search rules;
  read = read_more c.loop-index.index _ _ c.args.seat.now c.args.connections.now c.loop-index.connections c.hear.new.connections c.loop-index.invariant.read c.loop-index.invariant.asking (c.hear.ensures.some c.in-Some.is) (search rules);
  run = and_then _ _ _ c.loop-index.invariant.run c.hear.ensures.run;
}
