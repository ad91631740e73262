use Rattle.std.proofs.Common.{sym, ◌∙◌}
use Rattle.uri_resolver.proofs.SegmentRuns.{nothing_left, query_leads, slash_leads, dot_ends, other_ends}
use Rattle.uri_resolver.proofs.plain.reference_goes_on_plain.Goals as goal
use Rattle.uri_resolver.proofs.plain.reference_goes_on_plain.Goals.{then-byte-ne47-via-then-byte-ne47, then-byte-ne47-via-else-byte-ne47+then-reference_begins_with_dot}

pub returns-then-byte-ne47 : goal.returns-then-byte-ne47
returns-then-byte-ne47 c =
    let rest = c.loop-byte.rest.now in
    let byte = c.in-Some.byte.now in
    let later = c.in-Some.later.now in
    let run = sym c.after_path_segment.ensures ∙ c.in-Some.ensures.cases.0 in
    elim c.then-byte-ne47.branch [
      | then-byte-ne47-via-then-byte-ne47 w ↦ other_ends rest byte later run c.if-byte-eq63.false w.if-byte-ne47.true ∙ c.loop-byte.invariant
      | then-byte-ne47-via-else-byte-ne47+then-reference_begins_with_dot w ↦
          dot_ends rest byte later run w.if-byte-ne47.false (sym w.reference_begins_with_dot.ensures ∙ w.if-reference_begins_with_dot.true) ∙ c.loop-byte.invariant
    ]

pub loop-byte-preserved : goal.loop-byte-preserved
loop-byte-preserved c =
    let run = sym c.after_path_segment.ensures ∙ c.in-Some.ensures.cases.0 in
    slash_leads c.loop-byte.rest.now c.in-Some.byte.now c.in-Some.later.now run c.if-byte-ne47.false (sym c.reference_begins_with_dot.ensures ∙ c.if-reference_begins_with_dot.false)
    ∙ c.loop-byte.invariant

pub returns-then-byte-eq63 : goal.returns-then-byte-eq63
returns-then-byte-eq63 c =
    let run = sym c.after_path_segment.ensures ∙ c.in-Some.ensures.cases.0 in
    c.is_reference_query.ensures ∙ query_leads c.loop-byte.rest.now c.in-Some.byte.now c.in-Some.later.now run c.if-byte-eq63.true ∙ c.loop-byte.invariant

pub returns : goal.returns
returns c = nothing_left c.loop-byte.rest.now c.after_path_segment.result.now (sym c.after_path_segment.ensures) c.in_default.ensures.cases ∙ c.loop-byte.invariant
