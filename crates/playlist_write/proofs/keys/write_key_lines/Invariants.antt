use Rattle.std.proofs.Common.{◌≡◌, ◌++◌, string_bytes}
use Rattle.playlist_write.specs.Owed.{said_text}
use Rattle.playlist_write.specs.Inner.Owed.{set_tags}
use Rattle.playlist_write.proofs.keys.write_key_lines.Given as goal

abbrev pub invariant-loop-key : goal.invariant-loop-key
invariant-loop-key l = string_bytes l.out ++ said_text (set_tags l.key-iterator) ≡ string_bytes l.initial.out ++ said_text (set_tags l.initial.key-iterator)
