use Rattle.std.proofs.Common.{◌++◌, length, string_bytes}
use Rattle.byte_streams.specs.Devices.{NoneFailed}
use Rattle.playlist_write.specs.Owed.{said_text, segments_owed}
use Rattle.playlist_write.specs.Inner.Taken.{TookAllBut}
use Rattle.stitcher.specs.Stretches.{SecondHasInCommon}
use Rattle.playlist_write.specs.Inner.Changes.{HasFirstInCommon}
use Rattle.playlist_write.specs.Inner.KeyParts.{IsOnlyKey}
use Rattle.playlist_write.proofs.pieces.write_pieces_of_segments.Given as goal

abbrev pub invariant-loop-next : goal.invariant-loop-next
invariant-loop-next g l = record {
  taken : TookAllBut (g.S.Sink.stand l.fn.sink).contents (g.S.Sink.stand l.sink).contents
      (string_bytes l.held ++ said_text (segments_owed l.force l.segments))
      (string_bytes l.fn.held ++ said_text (segments_owed l.fn.before l.fn.segments));
  failed : NoneFailed (g.S.Sink.stand l.fn.sink).failed (g.S.Sink.stand l.sink).failed;
  first : HasFirstInCommon l.common l.force l.segments;
  key : IsOnlyKey l.key l.force.keys;
  second : SecondHasInCommon l.later l.segments;
}

abbrev pub decreases-loop-next : goal.decreases-loop-next
decreases-loop-next g l = length l.segments
