use Rattle.std.proofs.Common.{◌≡◌, length}
use Rattle.uri_resolver.specs.Plain.{is_path_segment_byte}
use Rattle.uri_resolver.proofs.SegmentRuns.{after}
use Rattle.uri_resolver.proofs.plain.after_path_segment.Given as goal

-- the run ends where that of what is left ends
abbrev pub invariant-loop-four : goal.invariant-loop-four
invariant-loop-four l = after is_path_segment_byte l.rest ≡ after is_path_segment_byte l.bytes

abbrev pub decreases-loop-four : goal.decreases-loop-four
decreases-loop-four l = length l.rest

abbrev pub invariant-loop-byte : goal.invariant-loop-byte
invariant-loop-byte l = after is_path_segment_byte l.rest ≡ after is_path_segment_byte l.bytes

abbrev pub decreases-loop-byte : goal.decreases-loop-byte
decreases-loop-byte l = length l.rest
