use Rattle.playlist_parse.proofs.PathSegments.{EndsSegment, after_segment, segment_cut}
use Rattle.playlist_parse.proofs.line.cut_after_path_segment.Goals as goal

pub range_from-requires : goal.range_from-requires
range_from-requires c =
    let ends : EndsSegment c.args.text.now c.as_bytes-bytes.result.now c.after_path_segment.result.now =
    record { is = c.as_bytes-bytes.ensures.value; left = c.after_path_segment.ensures; some = c.if-at-bytes.false; feed = c.if-bytes-at-ne10.false } in
    λ _. after_segment _ _ _ c.utf8.text ends

pub returns : goal.returns
returns c =
    let ends : EndsSegment c.args.text.now c.as_bytes-bytes.result.now c.after_path_segment.result.now =
    record { is = c.as_bytes-bytes.ensures.value; left = c.after_path_segment.ensures; some = c.if-at-bytes.false; feed = c.if-bytes-at-ne10.false } in
    segment_cut _ _ _ _ _ ends c.range.ensures.value c.range_from.ensures.value
