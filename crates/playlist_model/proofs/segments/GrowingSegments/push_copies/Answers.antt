use Rattle.std.proofs.Common.{◌++◌, ◌∷◌, [], ◌+◌, ◌∙◌, ap, sym, subst, take, append_assoc}
use Rattle.std.specs.List.{AllByRecursion}
use Rattle.playlist_model.specs.Rows.{Fits, row_segment, row_segments}
use Rattle.playlist_model.proofs.Rows.{taken_more, all_taken, no_rows}
use Rattle.playlist_model.proofs.segments.GrowingSegments.push_copies.Goals as goal

pub push_row_copy-requires-clause-fits : goal.push_row_copy-requires-clause-fits
push_row_copy-requires-clause-fits c = (subst (AllByRecursion (Fits c.segments.inside.tables.now)) c.in-Some.ensures.cases.0 c.loop-row.invariant.fit).0

pub loop-row-preserved : goal.loop-row-preserved
loop-row-preserved c =
    let i = c.loop-row.invariant in
    let tables = c.segments.inside.tables.now in
    let segment = row_segment tables c.in-Some.row.now in
    let more = taken_more c.args.segments i.taken.0 segment (row_segments tables c.in-Some.later.now) (sym (ap (row_segments tables) c.in-Some.ensures.cases.0) ∙ i.taken.2) in
    record {
      taken = (
        i.taken.0 + 1,
        c.in_ok-push_row_copy.ensures.pushed
            ∙ (ap (λ segments. segments ++ segment ∷ []) i.taken.1
            ∙ (append_assoc c.args.self.now.segments (take i.taken.0 c.args.segments) (segment ∷ []) ∙ ap (λ taken. c.args.self.now.segments ++ taken) (sym more.0))),
        more.1,
      );
      fit = (subst (AllByRecursion (Fits tables)) c.in-Some.ensures.cases.0 i.fit).1;
      compared = i.compared;
      last = c.in_ok-push_row_copy.ensures.last;
    }

pub returns-clause-pushed : goal.returns-clause-pushed
returns-clause-pushed c =
    let i = c.loop-row.invariant in
    i.taken.1 ∙ ap (λ taken. c.args.self.now.segments ++ taken) (all_taken c.args.segments i.taken.0 (no_rows c.segments.inside.tables.now c.loop-row.rest.now c.in_default.ensures.cases ∙ i.taken.2))
