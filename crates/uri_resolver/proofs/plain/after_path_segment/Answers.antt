use Rattle.std.proofs.Common.{◌-◌, ◌<◌, ◌≤◌, take, drop, length, sym, ap, ◌∙◌, arith}
use Rattle.std.specs.List.{prefix_len}
use Rattle.std.proofs.lemmas.List.{length-take, length-drop, take_all}
use Rattle.uri_resolver.specs.Plain.{is_path_segment_byte}
use Rattle.uri_resolver.proofs.SegmentRuns.{after, all_run, run_within, taken_go_on, one_goes_on}
use Rattle.uri_resolver.proofs.plain.after_path_segment.Goals as goal

pub loop-four-preserved : goal.loop-four-preserved
loop-four-preserved c =
    let rest = c.loop-four.rest.now in
    let parts = c.in-Some.ensures.cases in
    let taken = c.path_segment_bytes_of_four-taken.ensures ∙ ap (prefix_len is_path_segment_byte) parts.0 in
    let size = length-take 4 rest in
    let run : length (take 4 rest) ≤ prefix_len is_path_segment_byte (take 4 rest) = omega (arith, taken, size) in
    ap (λ rest. after is_path_segment_byte rest) parts.1 ∙ taken_go_on is_path_segment_byte 4 rest (all_run is_path_segment_byte (take 4 rest) run) ∙ c.loop-four.invariant

pub returns-then-taken-lt4 : goal.returns-then-taken-lt4
returns-then-taken-lt4 c =
    let rest = c.loop-four.rest.now in
    let parts = c.in-Some.ensures.cases in
    let taken = c.path_segment_bytes_of_four-taken.ensures ∙ ap (prefix_len is_path_segment_byte) parts.0 in
    let size = length-take 4 rest in
    let ends : prefix_len is_path_segment_byte (take 4 rest) < length (take 4 rest) = omega (arith, taken, size, parts.2) in
    let count = c.path_segment_bytes_of_four-taken.result in
    let dropped = length-drop count rest in
    let left : length (drop count rest) ≤ length rest - count = omega (arith, dropped) in
    take_all (length rest - count) (drop count rest) left ∙ ap (λ n. drop n rest) (taken ∙ sym (run_within is_path_segment_byte 4 rest ends)) ∙ c.loop-four.invariant

pub loop-byte-preserved : goal.loop-byte-preserved
loop-byte-preserved c =
    let here = sym c.is_path_segment_byte.ensures ∙ c.if-not-is_path_segment_byte.false in
    let one = one_goes_on is_path_segment_byte c.in-Some-split_first.byte.now c.in-Some-split_first.later.now here in
    sym one ∙ ap (λ rest. after is_path_segment_byte rest) (sym c.in-Some-split_first.ensures.cases.0) ∙ c.loop-byte.invariant
