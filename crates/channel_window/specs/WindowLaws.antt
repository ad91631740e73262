-- What holds of the window and of what `stitch` answers.
use Rattle.std.specs.Prelude.{◌≡◌, ◌≤◌, ℕ, List, map, reverse, drop, length}
use Rattle.std.specs.List.{list_all}
use Rattle.stitcher.specs.Stitched.{Numbers, can_be_numbered, numbered, from_place}
use Rattle.stitcher.specs.Paced.{stitched_with}
use Rattle.pod_store.specs.Store.{Store}
use Rattle.stitcher.specs.declared.marked.MarkedSegment.{MarkedSegment as Held}
use Rattle.stitcher.specs.declared.ends.Ends.{Ends}
use Rattle.stitcher.specs.StitchedSegments.{ends_in, item_fits, meant, stitched_segments}
use Rattle.stitcher.specs.Written.{written_item}

-- the window, as it is written, is the rest of what `stitch` answers, without the items before its place
abbrev pub WindowIsRestOfStitched : Type 0
WindowIsRestOfStitched = (store : Store) (first : Numbers) (ends : Ends) (marked : List Held) (place : ℕ) → place ≤ length (stitched_segments store first ends marked) →
    map written_item (reverse (from_place place (numbered first (stitched_with (ends_in store ends) (reverse (map (meant store) marked))))))
    ≡ drop place (stitched_segments store first ends marked)

-- and a number passes its range there exactly if one of the stitched list does
abbrev pub NumberRangeIsStitched : Type 0
NumberRangeIsStitched = (store : Store) (first : Numbers) (ends : Ends) (marked : List Held) →
    list_all item_fits (stitched_segments store first ends marked) ≡ list_all can_be_numbered (numbered first (stitched_with (ends_in store ends) (reverse (map (meant store) marked))))
