use Rattle.std.proofs.Common.{◌≡◌, ◌++◌, take, string_bytes}
use Rattle.playlist_write.specs.Owed.{said_text, segments_owed}
use Rattle.playlist_write.specs.Laid.{after_segments}
use Rattle.playlist_write.specs.Inner.Changes.{HasFirstInCommon}
use Rattle.playlist_write.specs.Inner.KeyParts.{IsOnlyKey}
use Rattle.playlist_write.proofs.resumed.write_first_segment_lines.Given as goal

abbrev pub invariant-loop-left : goal.invariant-loop-left
invariant-loop-left l = record {
  text : string_bytes l.out ++ said_text (segments_owed l.force (take l.left l.segments)) ≡ string_bytes l.initial.out ++ said_text (segments_owed l.fn.before (take l.fn.most l.fn.segments));
  force : after_segments l.force (take l.left l.segments) ≡ after_segments l.fn.before (take l.fn.most l.fn.segments);
  first : HasFirstInCommon l.common l.force l.segments;
  key : IsOnlyKey l.key l.force.keys;
}

abbrev pub decreases-loop-left : goal.decreases-loop-left
decreases-loop-left l = l.left
