use Rattle.std.proofs.Common.{◌≡◌, ◌++◌, length, string_bytes}
use Rattle.playlist_write.specs.Owed.{said_text, segments_owed}
use Rattle.playlist_write.specs.Laid.{after_segments}
use Rattle.stitcher.specs.Stretches.{SecondHasInCommon}
use Rattle.playlist_write.specs.Inner.Changes.{HasFirstInCommon}
use Rattle.playlist_write.specs.Inner.KeyParts.{IsOnlyKey}
use Rattle.playlist_write.proofs.resumed.write_all_segment_lines.Given as goal

abbrev pub invariant-loop-next : goal.invariant-loop-next
invariant-loop-next l = record {
  text : string_bytes l.out ++ said_text (segments_owed l.force l.segments) ≡ string_bytes l.initial.out ++ said_text (segments_owed l.fn.before l.fn.segments);
  force : after_segments l.force l.segments ≡ after_segments l.fn.before l.fn.segments;
  first : HasFirstInCommon l.common l.force l.segments;
  key : IsOnlyKey l.key l.force.keys;
  second : SecondHasInCommon l.later l.segments;
}

abbrev pub decreases-loop-next : goal.decreases-loop-next
decreases-loop-next l = length l.segments
