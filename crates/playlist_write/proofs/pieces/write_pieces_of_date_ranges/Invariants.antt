use Rattle.std.proofs.Common.{◌++◌, drop, string_bytes}
use Rattle.byte_streams.specs.Devices.{NoneFailed}
use Rattle.playlist_write.specs.Owed.{date_ranges_text}
use Rattle.playlist_write.specs.Inner.Taken.{TookAllBut}
use Rattle.playlist_write.proofs.pieces.write_pieces_of_date_ranges.Given as goal

abbrev pub invariant-loop-date_range : goal.invariant-loop-date_range
invariant-loop-date_range g l = record {
  taken : TookAllBut (g.S.Sink.stand l.fn.sink).contents (g.S.Sink.stand l.sink).contents
      (string_bytes l.held ++ date_ranges_text (drop l.date_range-index l.date_ranges)) (string_bytes l.fn.held ++ date_ranges_text l.date_ranges);
  failed : NoneFailed (g.S.Sink.stand l.fn.sink).failed (g.S.Sink.stand l.sink).failed;
}
