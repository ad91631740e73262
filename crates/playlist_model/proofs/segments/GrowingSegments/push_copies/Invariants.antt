use Rattle.std.proofs.Common.{◌≡◌, ◌++◌, ℕ, take, drop, length}
use Rattle.std.specs.List.{AllByRecursion}
use Rattle.playlist_model.specs.Rows.{AreCompared, Fits, row_segments}
use Rattle.playlist_model.specs.Inner.Rows.{AreInForceOf}
use Rattle.playlist_model.proofs.segments.GrowingSegments.push_copies.Given as goal

abbrev pub invariant-loop-row : goal.invariant-loop-row
invariant-loop-row l = record {
  taken : (count : ℕ) × (l.self.segments ≡ l.initial.self.segments ++ take count l.fn.segments) × (row_segments l.tables l.rest ≡ drop count l.fn.segments);
  fit : AllByRecursion (Fits l.tables) l.rest;
  compared : AreCompared l.tables.standings.items;
  last : AreInForceOf l.tables l.last l.self;
}

abbrev pub decreases-loop-row : goal.decreases-loop-row
decreases-loop-row l = length l.rest
