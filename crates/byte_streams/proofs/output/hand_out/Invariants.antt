use Rattle.std.proofs.Common.{length}
use Rattle.byte_streams.specs.Devices.{NoneFailed}
use Rattle.byte_streams.proofs.Fronts.{Joins}
use Rattle.byte_streams.proofs.output.hand_out.Given as goal

abbrev pub invariant-loop-rest : goal.invariant-loop-rest
invariant-loop-rest g l = record {
  taken : Joins (g.S.Sink.stand l.fn.sink).contents (g.S.Sink.stand l.sink).contents l.rest l.bytes;
  failed : NoneFailed (g.S.Sink.stand l.fn.sink).failed (g.S.Sink.stand l.sink).failed;
}

abbrev pub decreases-loop-rest : goal.decreases-loop-rest
decreases-loop-rest g l = length l.rest
