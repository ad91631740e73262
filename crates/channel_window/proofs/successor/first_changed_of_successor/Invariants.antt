use Rattle.std.proofs.Common.{◌≡◌, ◌∷◌, List, length}
use Rattle.playlist_model.specs.Segments.{Segment}
use Rattle.channel_spec.specs.Successor.{first_changed}
use Rattle.channel_window.specs.Listed.{window_segments_in}
use Rattle.channel_window.specs.Inner.Checked.{IsAlike}
use Rattle.channel_window.proofs.successor.first_changed_of_successor.Given as goal

abbrev pub invariant-loop-segment : goal.invariant-loop-segment
invariant-loop-segment l = record {
  changed : first_changed (window_segments_in l.shown) l.new ≡ first_changed (window_segments_in l.shown) l.rest;
  alike : (next : Segment) (later : List Segment) → l.rest ≡ next ∷ later → IsAlike l.shown l.alike next;
}

abbrev pub decreases-loop-segment : goal.decreases-loop-segment
decreases-loop-segment l = length l.rest
