use Rattle.std.proofs.Common.{sym, ◌∙◌}
use Rattle.uri_resolver.proofs.SegmentRuns.{segment_is_relative}
use Rattle.uri_resolver.proofs.plain.is_relative_path_segment.Goals as goal

pub returns-in-Some : goal.returns-in-Some
returns-in-Some c =
    sym (segment_is_relative c.args.segment.now c.in-Some.first.now c.in-Some.field-0-1.now c.requires (sym c.as_bytes.ensures.value ∙ c.in-Some.ensures.cases.0))
