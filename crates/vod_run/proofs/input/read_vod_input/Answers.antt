use Rattle.std.proofs.Common.{◌++◌, take, length-append, arith, append-nil}
use Rattle.std.proofs.KnownBytes.{Consumes-trans}
use Rattle.std.proofs.lemmas.Grind.{common_steps}
use Rattle.vod_run.proofs.input.read_vod_input.Goals as goal

pub returns-then-count-eq0 : goal.returns-then-count-eq0
returns-then-count-eq0 g = grind (arith, common_steps, append-nil, Consumes-trans)

pub loop-preserved : goal.loop-preserved
loop-preserved g c = grind (arith, common_steps, Consumes-trans, length-append)

pub returns-in_err-extend_from_slice-clause-memory : goal.returns-in_err-extend_from_slice-clause-memory
returns-in_err-extend_from_slice-clause-memory g c is =
    let block = take c.in-Ok.count c.read.new.buf in
    record {
      input = c.loop.input.items ++ block;
      given = Consumes-trans _ _ _ _ block c.loop.invariant.given c.in-Ok.ensures.bytes.0;
      many = omega (arith, c.if-count-eq0.false, c.in-Ok.ensures.bound.1, length-append c.loop.input.items block);
    }
