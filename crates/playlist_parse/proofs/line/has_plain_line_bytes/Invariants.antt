use Rattle.std.proofs.Common.{◌≡◌, take}
use Rattle.std.specs.List.{list_all}
use Rattle.playlist_parse.specs.Inner.LineViews.{is_plain_byte}
use Rattle.playlist_parse.proofs.line.has_plain_line_bytes.Given as goal

-- so far
abbrev pub invariant-loop-byte : goal.invariant-loop-byte
invariant-loop-byte l = l.plain ≡ list_all is_plain_byte (take l.byte-index l.bytes)
