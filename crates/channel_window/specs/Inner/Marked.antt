-- What the marker makes of new segments, each of which knows what it has in common with the one before it.
use Rattle.std.specs.Prelude.{◌≡◌, ◌++◌, ℤ, List, Option}
use Rattle.playlist_model.specs.Segments.{Segment}
use Rattle.stitcher.specs.declared.marked.MarkedSegment.{MarkedSegment as Held}
use Rattle.stitcher.specs.StitchedSegments.{KnowCommon}
use Rattle.channel_spec.specs.Marking.{Moment}
use Rattle.channel_window.specs.declared.marking.Run.{Run}
use Rattle.channel_window.specs.Marking.{Hint, mark_on, length_after}
use Rattle.channel_window.specs.Inner.Terms.{entered_after}

-- these segments, which begin at these instants, were put marked after those that were done, and the run is as far as them; they may
-- stand after any segment
pub record AreMarked (m : Moment) (old new : Run) (segments : List Segment) (instants : List (Option ℤ)) (before after : List Held) : Type 0 where
  pub hints : List Hint
  pub list : after ≡ before ++ mark_on m old.before old.entered hints segments instants
  pub entered : new.entered ≡ entered_after old.entered (mark_on m old.before old.entered hints segments instants)
  pub so_far : new.so_far ≡ length_after m.store old.before old.so_far (mark_on m old.before old.entered hints segments instants)
  pub common : (previous : Option Segment) → KnowCommon previous (mark_on m old.before old.entered hints segments instants)
