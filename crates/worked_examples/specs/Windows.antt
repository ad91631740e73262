-- What stands in a window: its items and pieces, the breaks that are played in it, and the pods that its marks mean.
use Rattle.std.specs.Prelude.{ℕ, Bool, true, false, List, [], ◌∷◌, map, reverse, codes, pos, Option, Some, None, option_map}
use Rattle.playlist_model.specs.declared.Playlist.{Playlist}
use Rattle.playlist_model.specs.InCommon.{nothing_in_common}
use Rattle.pod_store.specs.Marks.{Mark}
use Rattle.stitcher.specs.Stitched.{Item}
use Rattle.stitcher.specs.StitchedSegments.{meant, rest_in}
use Rattle.channel_spec.specs.Live as live
use Rattle.channel_spec.specs.Live.{refreshed, told, last_playlist}
use Rattle.channel_spec.specs.Kept.{listed, kept_of, origin_segment}
use Rattle.channel_spec.specs.LastWindow.{last_items}
use Rattle.channel_spec.specs.BreakLaws.{is_of_pod, lasts}
use Rattle.channel_spec.specs.OwedLaws.{is_played, is_unmarked, piece_of, piece_segment, states_time}
use Rattle.worked_examples.specs.Channels.{origin, plays, segments, tag, lasting, b, decide, decide_b, window}
use Rattle.worked_examples.specs.Pods as pods
use Rattle.worked_examples.specs.Stitched as stitched
use Rattle.worked_examples.specs.Stitched.{brief, marked, of_first_ad, of_second_ad, stepped, unmarked, with_numbers}
use Rattle.worked_examples.specs.Tables.{HasValues}

-- ---- items, pieces and segments

abbrev pub item_of : Option Mark → Item
item_of mark = record (with_numbers 3 4) { piece = record of_second_ad { mark = mark } }

-- an item is of a break's pod if it has the break's mark
abbrev pub ItemsAreOfPods : Type 0
ItemsAreOfPods = HasValues (is_of_pod (codes "b")) ((item_of (Some stitched.b), true) ∷ (item_of (Some stitched.c), false) ∷ (item_of None, false) ∷ [])

abbrev pub ItemsHavePieces : Type 0
ItemsHavePieces = HasValues piece_of ((item_of (Some stitched.b), record of_second_ad { mark = Some stitched.b }) ∷ [])

abbrev pub PiecesHaveSegments : Type 0
PiecesHaveSegments = HasValues piece_segment ((record of_second_ad { segment = stepped 5 3 1 }, stepped 5 3 1) ∷ [])

abbrev pub PiecesLast : Type 0
PiecesLast = HasValues lasts (([], 0) ∷ (of_first_ad true 8 ∷ of_first_ad false 9 ∷ of_second_ad ∷ [], 24) ∷ (of_first_ad true 8 ∷ of_first_ad false 9 ∷ of_second_ad ∷ of_second_ad ∷ of_first_ad true 8 ∷ [], 39) ∷ [])

-- the origin's segment under a mark, if any
abbrev pub MarkedAreTheOrigins : Type 0
MarkedAreTheOrigins = HasValues origin_segment ((unmarked (stepped 5 3 1), stepped 5 3 1) ∷ (marked stitched.b (stepped 5 3 1), stepped 5 3 1) ∷ [])

abbrev pub UnmarkedAreSeen : Type 0
UnmarkedAreSeen = HasValues is_unmarked ((unmarked (stepped 5 3 1), true) ∷ (marked stitched.b (stepped 5 3 1), false) ∷ [])

-- RFC 8216, 4.3.2.6
abbrev pub TimesAreStated : Type 0
TimesAreStated = HasValues states_time ((origin 0, true) ∷ (origin 1, false) ∷ [])

-- ---- the pods that marks mean

-- a marked segment means the break with its pod, and so does the rest of a pod; an ID that has no pod means none
abbrev pub MarksAreMeant : Type 0
MarksAreMeant = HasValues (meant pods.ab) ((
  record { segment = stepped 5 3 1; instant = Some (pos 9); mark = Some (codes "a"); goes_on = true; in_common = nothing_in_common; again = 0 },
  record { segment = stepped 5 3 1; instant = Some (pos 9); mark = Some (record { id = codes "a"; pod = pods.short 1 }) },
)
    ∷ (record { segment = stepped 5 3 1; instant = None; mark = Some (codes "z"); goes_on = false; in_common = nothing_in_common; again = 0 }, unmarked (stepped 5 3 1))
    ∷ (record { segment = stepped 5 3 1; instant = None; mark = None; goes_on = false; in_common = nothing_in_common; again = 0 }, unmarked (stepped 5 3 1)) ∷ [])

abbrev pub RestsAreMeant : Type 0
RestsAreMeant = HasValues (rest_in pods.ab) (
    (None, None)
    ∷ (Some (record { id = codes "a"; place = 2 }), Some (record { mark = record { id = codes "a"; pod = pods.short 1 }; place = 2 }))
    ∷ (Some (record { id = codes "z"; place = 2 }), None) ∷ [])

-- a playlist lists the oldest segment first
abbrev pub SegmentsAreListed : Type 0
SegmentsAreListed = HasValues listed (
    ([], [])
    ∷ (marked stitched.b (stepped 6 3 0) ∷ unmarked (stepped 5 3 1) ∷ [], stepped 5 3 1 ∷ stepped 6 3 0 ∷ [])
    ∷ (
      unmarked (stepped 9 3 0) ∷ unmarked (stepped 8 3 0) ∷ unmarked (stepped 7 3 0) ∷ unmarked (stepped 6 3 0) ∷ unmarked (stepped 5 3 1) ∷ [],
      stepped 5 3 1 ∷ stepped 6 3 0 ∷ stepped 7 3 0 ∷ stepped 8 3 0 ∷ stepped 9 3 0 ∷ [],
    ) ∷ [])

-- ---- windows

-- the items that stand from the last window's first one on, the oldest first
abbrev pub items_after : List live.Event → List (List ℕ)
items_after events = map brief (reverse (last_items (kept_of (told 100000000 events))))

-- nothing, a pod that goes on, a window that begins within a pod, and a list that has ended
abbrev pub LastWindowsStand : Type 0
LastWindowsStand = HasValues items_after (
    ([], [])
    ∷ (window (b ∷ []) 0 2 ∷ decide_b ∷ [], (0 ∷ 0 ∷ 5 ∷ 0 ∷ []) ∷ (1000 ∷ 1 ∷ 6 ∷ 1 ∷ []) ∷ [])
    ∷ (window (lasting 10 b ∷ []) 2 2 ∷ window (lasting 10 b ∷ []) 0 2 ∷ decide_b ∷ [], (1001 ∷ 2 ∷ 6 ∷ 0 ∷ []) ∷ (1002 ∷ 3 ∷ 6 ∷ 0 ∷ []) ∷ (2 ∷ 4 ∷ 7 ∷ 1 ∷ []) ∷ (3 ∷ 5 ∷ 7 ∷ 0 ∷ []) ∷ [])
    ∷ (refreshed (record (plays (b ∷ []) (segments 0 2)) { end_list = true }) ∷ decide_b ∷ [], (0 ∷ 0 ∷ 5 ∷ 0 ∷ []) ∷ (1000 ∷ 1 ∷ 6 ∷ 1 ∷ []) ∷ (1001 ∷ 2 ∷ 6 ∷ 0 ∷ []) ∷ (1002 ∷ 3 ∷ 6 ∷ 0 ∷ []) ∷ []) ∷ [])

-- whether the break of an ID is played in the window after these events
abbrev pub played : List live.Event × List ℕ → Option Bool
played it = option_map (λ (last : Playlist). is_played (told 100000000 it.0) last it.1) (last_playlist (told 100000000 it.0).accepted)

-- b lasts 10 s, and c follows it
abbrev pub two_breaks : List live.Event
two_breaks = window (lasting 10 b ∷ lasting 10 (tag (codes "c") 20) ∷ []) 0 2 ∷ decide (codes "c") (2000 ∷ []) ∷ decide_b ∷ []

abbrev pub goes_on : ℕ → List live.Event → List live.Event
goes_on number before = window (lasting 10 b ∷ lasting 10 (tag (codes "c") 20) ∷ []) number 2 ∷ before

-- while a segment of its pod is written, and while it is the break that was entered last
abbrev pub BreaksArePlayed : Type 0
BreaksArePlayed = HasValues played (
    ((decide_b ∷ [], codes "b"), None)
    ∷ ((two_breaks, codes "b"), Some true)
    ∷ ((two_breaks, codes "c"), Some false)
    ∷ ((goes_on 2 two_breaks, codes "b"), Some true)
    ∷ ((goes_on 3 (goes_on 2 two_breaks), codes "b"), Some false)
    ∷ ((goes_on 3 (goes_on 2 two_breaks), codes "c"), Some true)
    ∷ ((window (lasting 10 b ∷ []) 3 2 ∷ window (lasting 10 b ∷ []) 0 3 ∷ decide_b ∷ [], codes "b"), Some true) ∷ [])
