use Rattle.std.proofs.Common.{◌≡◌, ◌+◌, ◌<◌, ◌≤◌, ◌^◌, ◌++◌, string_bytes, string_len, string_capacity}
use Rattle.fixed_duration.specs.Text.{fraction_digits}
use Rattle.fixed_duration.proofs.push_duration_fraction.Given as goal

abbrev pub invariant-loop-rest : goal.invariant-loop-rest
invariant-loop-rest l = record {
  written : string_bytes l.out ++ fraction_digits l.places l.rest ≡ string_bytes l.fn.out ++ fraction_digits 9 l.nanos;
  below : l.rest < 10 ^ l.places;
  places : l.places ≤ 9;
  room : string_len l.out + l.places ≤ string_capacity l.out;
}

abbrev pub decreases-loop-rest : goal.decreases-loop-rest
decreases-loop-rest l = l.places
