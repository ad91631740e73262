-- Where a window starts, as inner functions and proofs say it.
use Rattle.std.specs.Prelude.{◌<◌, ◌≤◌, ℕ, ◌+◌, ◌-◌, ◌^◌, List, [], ◌∷◌, length, Option, None, option_map}
use Rattle.pod_store.specs.Store.{Store}
use Rattle.stitcher.specs.declared.marked.MarkedSegment.{MarkedSegment as Held}
use Rattle.stitcher.specs.declared.ends.Rest.{Rest}
use Rattle.pod_store.specs.Marks.{Mark, Marked, newest_mark}
use Rattle.stitcher.specs.Stitched.{newest_place}
use Rattle.stitcher.specs.Making.{begun}
use Rattle.stitcher.specs.Paced.{PodRest, rest_pieces}
use Rattle.stitcher.specs.StitchedSegments.{rest_in}
use Rattle.channel_window.specs.Marking.{place_on}
use Rattle.channel_window.specs.Inner.Listed.{IsFront}

-- ---- where a window starts

-- how many items stand for the rest of a pod
abbrev pub window_rest_count : Store → Option Rest → ℕ
window_rest_count store rest = length (rest_pieces (rest_in store rest))

-- how many items stand for a whole run that begins with the first of these segments
abbrev pub window_items_of_first : Store → List Held → ℕ
window_items_of_first store [] = 0
window_items_of_first store (m ∷ later) = length (begun store m m.mark)

-- wherever a window starts among these segments after this rest, its place can be told
abbrev pub HasRoom : Store → Option Rest → List Held → Type 0
HasRoom store rest list = (front : List Held) → IsFront front list → place_on store None 0 0 front + window_rest_count store rest < 2 ^ 64

-- all of them are among so many
abbrev pub IsWithin : Store → Option Rest → List Held → ℕ → Type 0
IsWithin store rest list most = (front : List Held) → IsFront front list → place_on store None 0 0 front + window_rest_count store rest ≤ most

-- what a window that starts at this place has of the pod of the newest run of these segments, after so many items of a rest
abbrev pub rest_of_newest_run : ℕ → ℕ → List Marked → Option PodRest
rest_of_newest_run before start gone = option_map (λ (mark : Mark). record { mark = mark; place = start - (newest_place gone + before) }) (newest_mark gone)
