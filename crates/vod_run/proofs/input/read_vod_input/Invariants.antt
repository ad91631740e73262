use Rattle.std.proofs.Common.{◌+◌, ◌≤◌, length}
use Rattle.std.specs.Io.KnownBytes.{Consumes}
use Rattle.byte_streams.specs.Devices.{CalledAll, NoneFailed}
use Rattle.vod_run.proofs.input.read_vod_input.Given as goal

abbrev pub invariant-loop : goal.invariant-loop
invariant-loop g l = record {
  given : Consumes (g.S.Source.stand l.fn.source).remaining (g.S.Source.stand l.source).remaining l.input.items;
  called : CalledAll (g.S.Source.stand l.fn.source).called (g.S.Source.stand l.source).called l.counter;
  calls : (g.S.Source.stand l.source).called ≤ (g.S.Source.stand l.fn.source).called + l.counter;
  failed : NoneFailed (g.S.Source.stand l.fn.source).failed (g.S.Source.stand l.source).failed;
  many : l.counter ≤ length l.input.items;
}
