use Rattle.std.proofs.Common.{arith}
use Rattle.std.proofs.lemmas.Result.{err_from_is_err_and}
use Rattle.std.proofs.lemmas.Grind.{common_steps}
use Rattle.scte35_codec.specs.Reading.{components_at}
use Rattle.scte35_codec.proofs.Loop.{goes_on, stops, is_done}
use Rattle.scte35_codec.proofs.reading.take_splice_components.Goals as goal

pub returns-in_err-component : goal.returns-in_err-component
returns-in_err-component c =
    let p = err_from_is_err_and c.from_residual-in_err-component.result c.from_residual-in_err-component.ensures.1 in
    rw (p.1, p.2) (stops c.args.immediate c.in_err-component.field-0.0 c.loop.components.items c.args.count c.loop.counter c.loop.rest.now (components_at c.args.immediate c.args.count c.args.bytes.now) c.loop-test.true c.in_err-component.ensures c.loop.invariant)

pub loop-preserved : goal.loop-preserved
loop-preserved c =
    rw c.in_ok-push.ensures.items (goes_on _ _ _ _ _ _ _ _ c.loop-test.true c.in_ok-component.ensures
    c.loop.invariant)

pub returns : goal.returns
returns c = grind (arith, common_steps, is_done)
