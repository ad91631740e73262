use Rattle.std.proofs.Common.{rules, ◌≡◌, true, arith}
use Rattle.std.proofs.lemmas.Grind.{common_steps}
use Rattle.playlist_parse.proofs.GoingTo.{took_over, stayed, plain_after, taken_over, none_taken}
use Rattle.playlist_parse.proofs.source.take_over_source_lines_after.Goals as goal

pub returns-in_err-reading_progress_agrees : goal.returns-in_err-reading_progress_agrees
returns-in_err-reading_progress_agrees c = search rules

pub returns-then-not-branch : goal.returns-then-not-branch
returns-then-not-branch c = grind (arith, common_steps, none_taken)

pub returns-in_default : goal.returns-in_default
returns-in_default c = grind (arith, common_steps, none_taken)

pub returns-in_default-line_number_after : goal.returns-in_default-line_number_after
returns-in_default-line_number_after c = grind (arith, common_steps, none_taken)

pub returns-in_err-go_on_after_source_lines : goal.returns-in_err-go_on_after_source_lines
returns-in_err-go_on_after_source_lines c = search rules

pub returns-in_default-2 : goal.returns-in_default-2
returns-in_default-2 c = grind (arith, common_steps, none_taken)

pub go_on_after_source_lines-requires : goal.go_on_after_source_lines-requires
go_on_after_source_lines-requires c = search rules

pub returns-then-not-branch-2 : goal.returns-then-not-branch-2
returns-then-not-branch-2 c = grind (arith, common_steps, stayed, none_taken)

pub returns-in-Some-segment_count : goal.returns-in-Some-segment_count
returns-in-Some-segment_count c =
    let agree : c.in_ok-reading_progress_agrees.field-0 ≡ true = search rules in
    let done : c.in_ok-go_on_after_source_lines.field-0 ≡ true = search rules in
    record {
      reached =
          took_over c.args.reading.now c.args.front.now (record { progress = c.go_on_after_source_lines.new.here; lines = c.in-Some.later; number = c.in-Some-line_number_after.next }) c.left.result.now c.args.source.now
          (c.in_ok-reading_progress_agrees.ensures agree) c.left.ensures c.in-Some.ensures (c.in_ok-go_on_after_source_lines.ensures.gone done)
          c.in-Some-line_number_after.ensures;
      plain = grind (arith, common_steps, plain_after);
      taken = grind (arith, common_steps, taken_over);
    }

pub returns-in-None : goal.returns-in-None
returns-in-None c = grind (arith, common_steps, took_over, plain_after, none_taken)
