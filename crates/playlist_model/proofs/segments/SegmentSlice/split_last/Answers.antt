use Rattle.playlist_model.proofs.Rows.{front_fits}
use Rattle.playlist_model.proofs.segments.SegmentSlice.split_last.Goals as goal

pub invariant_of-result-2 : goal.invariant_of-result-2
invariant_of-result-2 c =
    (front_fits c.self.inside.tables.now c.self.inside.rows.now c.in_ok-row.before.now c.in_ok-row.row.now c.in_ok-row.ensures.cases.0 c.self.invariant.0, c.self.invariant.1)
