use Rattle.std.proofs.Common.{refl, sym, ◌∙◌}
use Rattle.connections.proofs.Calling.{called_again}
use Rattle.connections.proofs.Leading.{and_then}
use Rattle.adsplice.proofs.Serving.{calls_begin, calls_more, calls_end, calls_all}
use Rattle.adsplice.proofs.server.Server.call_line.Goals as goal

pub returns-then-call_one-clause-served : goal.returns-then-call_one-clause-served
returns-then-call_one-clause-served c = calls_end _ _ _ _ _ _ _ _ _ _ refl (calls_begin _ _ _ _ _) c.call_one.ensures.served

pub loop-init : goal.loop-init
loop-init c = record {
  run = c.call_one.ensures.run;
  called = c.call_one.ensures.line;
  asked = calls_more _ _ _ _ _ _ _ _ _ _ refl (calls_begin _ _ _ _ _) c.call_one.ensures.served (sym c.call_one.ensures.last ∙ c.if-call_one.false);
}

pub loop-preserved : goal.loop-preserved
loop-preserved c = record {
  run = and_then _ _ _ c.loop.invariant.run c.call_one-in-loop.ensures.run;
  called = called_again _ _ _ c.loop.invariant.called c.call_one-in-loop.ensures.line;
  asked = calls_more _ _ _ _ _ _ _ _ _ _ (c.loop.auto.block ∙ c.call_one.auto.block) c.loop.invariant.asked c.call_one-in-loop.ensures.served (sym c.call_one-in-loop.ensures.last ∙ c.if-call_one-2.false);
}

pub returns-then-call_one-2-clause-served : goal.returns-then-call_one-2-clause-served
returns-then-call_one-2-clause-served c = calls_end _ _ _ _ _ _ _ _ _ _ (c.loop.auto.block ∙ c.call_one.auto.block) c.loop.invariant.asked c.call_one-in-loop.ensures.served

pub returns-clause-served : goal.returns-clause-served
returns-clause-served c = calls_all _ _ _ _ _ _ _ c.loop.invariant.asked

pub returns-then-call_one-2-clause-run : goal.returns-then-call_one-2-clause-run
returns-then-call_one-2-clause-run c = and_then _ _ _ c.loop.invariant.run c.call_one-in-loop.ensures.run

pub returns-then-call_one-2-clause-line : goal.returns-then-call_one-2-clause-line
returns-then-call_one-2-clause-line c = called_again _ _ _ c.loop.invariant.called c.call_one-in-loop.ensures.line

pub returns-clause-run : goal.returns-clause-run
returns-clause-run c = c.loop.invariant.run

pub returns-clause-line : goal.returns-clause-line
returns-clause-line c = c.loop.invariant.called
