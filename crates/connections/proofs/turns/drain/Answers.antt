use Rattle.std.proofs.Common.{rules, arith}
use Rattle.connections.proofs.FewCalls.{called_each, called_then}
use Rattle.connections.proofs.Turning.{moved_none, moved_more}
use Rattle.connections.proofs.turns.drain.Goals as goal

pub returns-in-Bytes-eq0-clause-few : goal.returns-in-Bytes-eq0-clause-few
returns-in-Bytes-eq0-clause-few g c = called_then c.loop-index.index _ _ _ _ c.loop-index.invariant (_, c.in-Bytes-eq0.ensures.calls) (omega arith)

pub returns-in-WouldWait-clause-few : goal.returns-in-WouldWait-clause-few
returns-in-WouldWait-clause-few g c = called_then c.loop-index.index _ _ _ _ c.loop-index.invariant (_, c.in-WouldWait.ensures.calls) (omega arith)

pub returns-in-HasFailed-clause-few : goal.returns-in-HasFailed-clause-few
returns-in-HasFailed-clause-few g c = called_then c.loop-index.index _ _ _ _ c.loop-index.invariant (_, c.in-HasFailed.ensures.calls) (omega arith)

pub returns-clause-few : goal.returns-clause-few
returns-clause-few g c = called_each c.loop-index.index _ _ _ c.loop-index.invariant (omega arith)

pub loop-index-init : goal.loop-index-init
loop-index-init g c = moved_none _

pub loop-index-preserved : goal.loop-index-preserved
loop-index-preserved g c = moved_more c.loop-index.index c.in-Bytes.field-0 _ _ _ c.loop-index.invariant (search rules) c.in-Bytes.ensures.calls
