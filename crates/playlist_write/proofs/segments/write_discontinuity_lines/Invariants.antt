use Rattle.std.proofs.Common.{◌≡◌, ◌++◌, replicate, string_bytes}
use Rattle.playlist_model.specs.Said.{discontinuity}
use Rattle.playlist_write.specs.Owed.{said_text}
use Rattle.playlist_write.proofs.segments.write_discontinuity_lines.Given as goal

abbrev pub invariant-loop : goal.invariant-loop
invariant-loop l = string_bytes l.out ≡ string_bytes l.initial.out ++ said_text (replicate l.counter discontinuity)
