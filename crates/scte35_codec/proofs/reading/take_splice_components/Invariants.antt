use Rattle.std.proofs.Common.{◌≡◌, ◌-◌}
use Rattle.scte35_codec.specs.Reading.{components_at}
use Rattle.scte35_codec.proofs.Loop.{with_front}
use Rattle.scte35_codec.proofs.reading.take_splice_components.Given as goal

abbrev pub invariant-loop : goal.invariant-loop
invariant-loop l = with_front l.components.items (components_at l.immediate (l.count - l.counter) l.rest) ≡ components_at l.immediate l.count l.bytes
