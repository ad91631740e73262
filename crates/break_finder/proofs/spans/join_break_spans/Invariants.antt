use Rattle.std.proofs.Common.{ℕ, ◌-◌, ◌≤◌, List, ◌++◌, length}
use Rattle.std.specs.List.{All}
use Rattle.break_finder.specs.Entrances.{Entrance, TellsEntrances}
use Rattle.break_finder.specs.Places.{AreApart, HasPlaces}
use Rattle.break_finder.proofs.spans.join_break_spans.Given as goal

abbrev pub invariant-loop-ours : goal.invariant-loop-ours
invariant-loop-ours l = record {
  tells :
      (tolerance : ℕ) (found before after : List Entrance) → AreApart found → All (HasPlaces found) l.fn.ours → All (HasPlaces found) l.fn.theirs
      → All (TellsEntrances tolerance before) l.fn.ours → All (TellsEntrances tolerance after) l.fn.theirs
      → All (TellsEntrances tolerance before) l.ours × (All (TellsEntrances tolerance after) l.theirs × All (TellsEntrances tolerance (before ++ after)) l.done.items);
  places :
      (found : List Entrance) → All (HasPlaces found) l.fn.ours → All (HasPlaces found) l.fn.theirs
      → All (HasPlaces found) l.ours × (All (HasPlaces found) l.theirs × All (HasPlaces found) l.done.items);
  few : length l.done.items ≤ l.most;
}

abbrev pub decreases-loop-ours : goal.decreases-loop-ours
decreases-loop-ours l = l.most - length l.done.items
