-- A long run: its pod of eight segments in a window, the rest of it after the run, and a break whose ID differs in its last byte.
use Rattle.std.specs.Prelude.{ℕ, zero, suc, ◌+◌, ◌==◌, Bool, true, false, List, [], ◌∷◌, ◌++◌, map, reverse, codes, Option, Some, None, option_map, if◌then◌else◌}
use Rattle.playlist_model.specs.Segments.{Segment}
use Rattle.playlist_model.specs.declared.Playlist.{Playlist}
use Rattle.playlist_model.specs.declared.DateRange.{DateRange}
use Rattle.pod_store.specs.Marks.{Marked}
use Rattle.break_finder.specs.Breaks.{Break}
use Rattle.stitcher.specs.Stitched.{Item}
use Rattle.stitcher.specs.Paced.{PodRest}
use Rattle.channel_spec.specs.Live.{Event, refreshed, told, last_playlist, in_use, whole_stitched_list, date_range_text}
use Rattle.channel_spec.specs.Kept.{Kept, kept_of, window_by}
use Rattle.channel_spec.specs.LastWindow.{last_items}
use Rattle.channel_spec.specs.OwedLaws.{is_played}
use Rattle.worked_examples.specs.Pods.{long}
use Rattle.worked_examples.specs.Channels.{noon_and, tag, lasting, decide, plays, owed, written, stored}
use Rattle.worked_examples.specs.Tables.{HasValues}

-- ---- the events

-- segment k of the origin has the number 100 + k and the URI k, lasts 10 s, and states noon if it is the first
abbrev pub origin : ℕ → Segment
origin k = record { media_sequence = 100 + k; discontinuity_sequence = 5; discontinuities = 0; uri = k ∷ []; byte_range = None; keys = []; init_section = None; duration = 10000000000; title = []; program_date_time = if k == 0 then Some (noon_and 0) else None }

-- so many from segment k on
abbrev pub segments : ℕ → ℕ → List Segment
segments k zero = []
segments k (suc count) = origin k ∷ segments (k + 1) count

-- b, whose ID is long, takes segments 2 to 7, and c, whose ID is as long, segment 10; the others are far away
abbrev pub tags : List DateRange
tags = tag (codes "w") 900 ∷ tag (codes "x") 900 ∷ tag (codes "y") 900 ∷ tag (codes "z") 900 ∷ lasting 60 (tag (long 98) 20) ∷ lasting 10 (tag (long 99) 100) ∷ []

abbrev pub window : ℕ → ℕ → Event
window k count = refreshed (plays tags (segments k count))

abbrev pub both : List Event
both = decide (long 99) (2000 ∷ []) ∷ decide (long 98) (1000 ∷ 1001 ∷ 1002 ∷ 1003 ∷ 1004 ∷ 1005 ∷ 1006 ∷ 1007 ∷ []) ∷ []

-- three segments of b
abbrev pub first : List Event
first = window 0 5 ∷ both

-- three more: the run is still open
abbrev pub second : List Event
second = window 5 3 ∷ first

-- the run has ended, and two segments of its pod aren't written yet
abbrev pub third : List Event
third = window 8 4 ∷ second

abbrev pub fourth : List Event
fourth = window 12 1 ∷ third

abbrev pub fifth : List Event
fifth = window 13 5 ∷ fourth

-- the playlist ends within the run
abbrev pub ended : List Event
ended = refreshed (record (plays tags (segments 5 3)) { end_list = true }) ∷ first

-- the same, but the window begins with the last segment of the run
abbrev pub within : List Event
within = window 7 5 ∷ second

-- the playlist ends after the run
abbrev pub ended_after : List Event
ended_after = refreshed (record (plays tags (segments 8 4)) { end_list = true }) ∷ second

-- ---- tables

-- of the pod as much as the run has lasted; the window begins one past the last item written before, so that the rest of the
-- pod is written; all of it if the playlist has ended
abbrev pub LongRunsAreWritten : Type 0
LongRunsAreWritten = HasValues written (
    (first, Some ((0 ∷ 100 ∷ 5 ∷ 0 ∷ []) ∷ (1 ∷ 101 ∷ 5 ∷ 0 ∷ []) ∷ (1000 ∷ 102 ∷ 6 ∷ 1 ∷ []) ∷ (1001 ∷ 103 ∷ 6 ∷ 0 ∷ []) ∷ (1002 ∷ 104 ∷ 6 ∷ 0 ∷ []) ∷ []))
    ∷ (second, Some ((1000 ∷ 102 ∷ 6 ∷ 1 ∷ []) ∷ (1001 ∷ 103 ∷ 6 ∷ 0 ∷ []) ∷ (1002 ∷ 104 ∷ 6 ∷ 0 ∷ []) ∷ (1003 ∷ 105 ∷ 6 ∷ 0 ∷ []) ∷ (1004 ∷ 106 ∷ 6 ∷ 0 ∷ []) ∷ (1005 ∷ 107 ∷ 6 ∷ 0 ∷ []) ∷ []))
    ∷ (third, Some ((1006 ∷ 108 ∷ 6 ∷ 0 ∷ []) ∷ (1007 ∷ 109 ∷ 6 ∷ 0 ∷ []) ∷ (8 ∷ 110 ∷ 7 ∷ 1 ∷ []) ∷ (9 ∷ 111 ∷ 7 ∷ 0 ∷ []) ∷ (2000 ∷ 112 ∷ 8 ∷ 1 ∷ []) ∷ (11 ∷ 113 ∷ 9 ∷ 1 ∷ []) ∷ []))
    ∷ (fourth, Some ((12 ∷ 114 ∷ 9 ∷ 0 ∷ []) ∷ []))
    ∷ (fifth, Some ((13 ∷ 115 ∷ 9 ∷ 0 ∷ []) ∷ (14 ∷ 116 ∷ 9 ∷ 0 ∷ []) ∷ (15 ∷ 117 ∷ 9 ∷ 0 ∷ []) ∷ (16 ∷ 118 ∷ 9 ∷ 0 ∷ []) ∷ (17 ∷ 119 ∷ 9 ∷ 0 ∷ []) ∷ []))
    ∷ (within, Some ((1000 ∷ 102 ∷ 6 ∷ 1 ∷ []) ∷ (1001 ∷ 103 ∷ 6 ∷ 0 ∷ []) ∷ (1002 ∷ 104 ∷ 6 ∷ 0 ∷ []) ∷ (1003 ∷ 105 ∷ 6 ∷ 0 ∷ []) ∷ (1004 ∷ 106 ∷ 6 ∷ 0 ∷ []) ∷ (1005 ∷ 107 ∷ 6 ∷ 0 ∷ []) ∷ (1006 ∷ 108 ∷ 6 ∷ 0 ∷ []) ∷ (1007 ∷ 109 ∷ 6 ∷ 0 ∷ []) ∷ (8 ∷ 110 ∷ 7 ∷ 1 ∷ []) ∷ (9 ∷ 111 ∷ 7 ∷ 0 ∷ []) ∷ (2000 ∷ 112 ∷ 8 ∷ 1 ∷ []) ∷ (11 ∷ 113 ∷ 9 ∷ 1 ∷ []) ∷ []))
    ∷ (ended, Some ((1000 ∷ 102 ∷ 6 ∷ 1 ∷ []) ∷ (1001 ∷ 103 ∷ 6 ∷ 0 ∷ []) ∷ (1002 ∷ 104 ∷ 6 ∷ 0 ∷ []) ∷ (1003 ∷ 105 ∷ 6 ∷ 0 ∷ []) ∷ (1004 ∷ 106 ∷ 6 ∷ 0 ∷ []) ∷ (1005 ∷ 107 ∷ 6 ∷ 0 ∷ []) ∷ (1006 ∷ 108 ∷ 6 ∷ 0 ∷ []) ∷ (1007 ∷ 109 ∷ 6 ∷ 0 ∷ []) ∷ []))
    ∷ (ended_after, Some ((1006 ∷ 108 ∷ 6 ∷ 0 ∷ []) ∷ (1007 ∷ 109 ∷ 6 ∷ 0 ∷ []) ∷ (8 ∷ 110 ∷ 7 ∷ 1 ∷ []) ∷ (9 ∷ 111 ∷ 7 ∷ 0 ∷ []) ∷ (2000 ∷ 112 ∷ 8 ∷ 1 ∷ []) ∷ (11 ∷ 113 ∷ 9 ∷ 1 ∷ []) ∷ [])) ∷ [])

abbrev pub brief : Item → List ℕ
brief item = item.piece.segment.uri ++ item.numbers.media_sequence ∷ item.numbers.discontinuity_sequence ∷ item.numbers.discontinuities ∷ []

-- the stitched list of all segments ever shown, the oldest item first
abbrev pub listed : List Event → List (List ℕ)
listed events = map brief (reverse (whole_stitched_list (told 100000000 events)))

-- its newest run is open until the playlist has ended
abbrev pub WholeListsAreStitched : Type 0
WholeListsAreStitched = HasValues listed (
    ([], [])
    ∷ (second, (0 ∷ 100 ∷ 5 ∷ 0 ∷ []) ∷ (1 ∷ 101 ∷ 5 ∷ 0 ∷ []) ∷ (1000 ∷ 102 ∷ 6 ∷ 1 ∷ []) ∷ (1001 ∷ 103 ∷ 6 ∷ 0 ∷ []) ∷ (1002 ∷ 104 ∷ 6 ∷ 0 ∷ []) ∷ (1003 ∷ 105 ∷ 6 ∷ 0 ∷ []) ∷ (1004 ∷ 106 ∷ 6 ∷ 0 ∷ []) ∷ (1005 ∷ 107 ∷ 6 ∷ 0 ∷ []) ∷ [])
    ∷ (ended, (0 ∷ 100 ∷ 5 ∷ 0 ∷ []) ∷ (1 ∷ 101 ∷ 5 ∷ 0 ∷ []) ∷ (1000 ∷ 102 ∷ 6 ∷ 1 ∷ []) ∷ (1001 ∷ 103 ∷ 6 ∷ 0 ∷ []) ∷ (1002 ∷ 104 ∷ 6 ∷ 0 ∷ []) ∷ (1003 ∷ 105 ∷ 6 ∷ 0 ∷ []) ∷ (1004 ∷ 106 ∷ 6 ∷ 0 ∷ []) ∷ (1005 ∷ 107 ∷ 6 ∷ 0 ∷ []) ∷ (1006 ∷ 108 ∷ 6 ∷ 0 ∷ []) ∷ (1007 ∷ 109 ∷ 6 ∷ 0 ∷ []) ∷ [])
    ∷ (third, (0 ∷ 100 ∷ 5 ∷ 0 ∷ []) ∷ (1 ∷ 101 ∷ 5 ∷ 0 ∷ []) ∷ (1000 ∷ 102 ∷ 6 ∷ 1 ∷ []) ∷ (1001 ∷ 103 ∷ 6 ∷ 0 ∷ []) ∷ (1002 ∷ 104 ∷ 6 ∷ 0 ∷ []) ∷ (1003 ∷ 105 ∷ 6 ∷ 0 ∷ []) ∷ (1004 ∷ 106 ∷ 6 ∷ 0 ∷ []) ∷ (1005 ∷ 107 ∷ 6 ∷ 0 ∷ []) ∷ (1006 ∷ 108 ∷ 6 ∷ 0 ∷ []) ∷ (1007 ∷ 109 ∷ 6 ∷ 0 ∷ []) ∷ (8 ∷ 110 ∷ 7 ∷ 1 ∷ []) ∷ (9 ∷ 111 ∷ 7 ∷ 0 ∷ []) ∷ (2000 ∷ 112 ∷ 8 ∷ 1 ∷ []) ∷ (11 ∷ 113 ∷ 9 ∷ 1 ∷ []) ∷ []) ∷ [])

-- the date ranges that are written, by their IDs
abbrev pub dated : List Event → Option (List (List ℕ))
dated events = option_map (λ (p : Playlist). map (λ (r : DateRange). r.id) p.date_ranges) (owed events)

-- all but those of the breaks in use: of each a segment of its pod is written, or it is the last one entered. None, if no
-- written segment states a time
abbrev pub DateRangesAreLeft : Type 0
DateRangesAreLeft = HasValues dated (
    (first, Some (codes "w" ∷ codes "x" ∷ codes "y" ∷ codes "z" ∷ long 99 ∷ []))
    ∷ (second, Some [])
    ∷ (third, Some (codes "w" ∷ codes "x" ∷ codes "y" ∷ codes "z" ∷ []))
    ∷ (within, Some (codes "w" ∷ codes "x" ∷ codes "y" ∷ codes "z" ∷ []))
    ∷ (fourth, Some (codes "w" ∷ codes "x" ∷ codes "y" ∷ codes "z" ∷ long 98 ∷ []))
    ∷ (fifth, Some (codes "w" ∷ codes "x" ∷ codes "y" ∷ codes "z" ∷ long 98 ∷ [])) ∷ [])

-- their pods are kept as long
abbrev pub PodsStay : Type 0
PodsStay = HasValues stored (
    (first, (long 98, true) ∷ (long 99, false) ∷ [])
    ∷ (second, (long 98, true) ∷ (long 99, false) ∷ [])
    ∷ (third, (long 98, true) ∷ (long 99, true) ∷ [])
    ∷ (fourth, (long 99, true) ∷ [])
    ∷ (fifth, (long 99, true) ∷ []) ∷ [])

-- whether a break is in use after these events, if the first shown segment has this number
abbrev pub is_used : List Event × ℕ × List ℕ → Bool
is_used it = in_use (told 100000000 it.0).start it.1 (told 100000000 it.0).history it.2

abbrev pub BreaksAreInUse : Type 0
BreaksAreInUse = HasValues is_used (
    ((third, 108, long 98), true)
    ∷ ((third, 108, long 99), true)
    ∷ ((third, 108, long 100), false)
    ∷ ((third, 108, codes "w"), false)
    ∷ ((fourth, 112, long 98), false)
    ∷ ((fourth, 112, long 99), true) ∷ [])

-- whether it is played
abbrev pub is_shown : List Event × List ℕ → Option Bool
is_shown it = option_map (λ (last : Playlist). is_played (told 100000000 it.0) last it.1) (last_playlist (told 100000000 it.0).accepted)

abbrev pub BreaksAreShown : Type 0
BreaksAreShown = HasValues is_shown (
    ((third, long 98), Some true)
    ∷ ((third, long 99), Some true)
    ∷ ((third, long 100), Some false)
    ∷ ((fourth, long 98), Some false)
    ∷ ((fourth, long 99), Some true) ∷ [])

-- the window by all that was told, and by what is kept
abbrev pub windowed : List Event → List (List ℕ)
windowed events = map brief (window_by (last_playlist (told 100000000 events).accepted) (told 100000000 events).start (told 100000000 events).history)

abbrev pub kept_window : List Event → List (List ℕ)
kept_window events = map brief (reverse (last_items (kept_of (told 100000000 events))))

abbrev pub both_windows : List Event → List (List ℕ) × List (List ℕ)
both_windows events = (windowed events, kept_window events)

abbrev pub WindowsAreKept : Type 0
WindowsAreKept = HasValues both_windows (
    ([], ([], []))
    ∷ (third, ((1006 ∷ 108 ∷ 6 ∷ 0 ∷ []) ∷ (1007 ∷ 109 ∷ 6 ∷ 0 ∷ []) ∷ (8 ∷ 110 ∷ 7 ∷ 1 ∷ []) ∷ (9 ∷ 111 ∷ 7 ∷ 0 ∷ []) ∷ (2000 ∷ 112 ∷ 8 ∷ 1 ∷ []) ∷ (11 ∷ 113 ∷ 9 ∷ 1 ∷ []) ∷ [], (1006 ∷ 108 ∷ 6 ∷ 0 ∷ []) ∷ (1007 ∷ 109 ∷ 6 ∷ 0 ∷ []) ∷ (8 ∷ 110 ∷ 7 ∷ 1 ∷ []) ∷ (9 ∷ 111 ∷ 7 ∷ 0 ∷ []) ∷ (2000 ∷ 112 ∷ 8 ∷ 1 ∷ []) ∷ (11 ∷ 113 ∷ 9 ∷ 1 ∷ []) ∷ []))
    ∷ (fifth, ((13 ∷ 115 ∷ 9 ∷ 0 ∷ []) ∷ (14 ∷ 116 ∷ 9 ∷ 0 ∷ []) ∷ (15 ∷ 117 ∷ 9 ∷ 0 ∷ []) ∷ (16 ∷ 118 ∷ 9 ∷ 0 ∷ []) ∷ (17 ∷ 119 ∷ 9 ∷ 0 ∷ []) ∷ [], (13 ∷ 115 ∷ 9 ∷ 0 ∷ []) ∷ (14 ∷ 116 ∷ 9 ∷ 0 ∷ []) ∷ (15 ∷ 117 ∷ 9 ∷ 0 ∷ []) ∷ (16 ∷ 118 ∷ 9 ∷ 0 ∷ []) ∷ (17 ∷ 119 ∷ 9 ∷ 0 ∷ []) ∷ [])) ∷ [])

abbrev pub sequence_number : Marked → ℕ
sequence_number s = s.segment.media_sequence

abbrev pub rest_row : PodRest → List ℕ × ℕ
rest_row rest = (rest.mark.id, rest.place)

abbrev pub kept_briefly : Kept → List (List ℕ) × Option (List ℕ) × List ℕ × ℕ × Option (List ℕ × ℕ) × List ℕ
kept_briefly kept = (
  map (λ (b : Break). b.id) kept.breaks,
  kept.entered,
  kept.numbers.media_sequence ∷ kept.numbers.discontinuity_sequence ∷ kept.numbers.discontinuities ∷ [],
  kept.so_far,
  option_map rest_row kept.rest,
  map sequence_number kept.shown,
)

abbrev pub kept : List Event → List (List ℕ) × Option (List ℕ) × List ℕ × ℕ × Option (List ℕ × ℕ) × List ℕ
kept events = kept_briefly (kept_of (told 100000000 events))

abbrev pub ids : List (List ℕ)
ids = codes "w" ∷ codes "x" ∷ codes "y" ∷ codes "z" ∷ long 98 ∷ long 99 ∷ []

-- the known breaks, the last one entered, the numbers of the window's first item, how long the newest run has lasted, the rest
-- that the window starts with, and the shown segments, the newest first
abbrev pub LongStatesAreKept : Type 0
LongStatesAreKept = HasValues kept (
    (first, (ids, Some (long 98), 100 ∷ 5 ∷ 0 ∷ [], 30000000000, None, 104 ∷ 103 ∷ 102 ∷ 101 ∷ 100 ∷ []))
    ∷ (second, (ids, Some (long 98), 102 ∷ 6 ∷ 1 ∷ [], 60000000000, None, 107 ∷ 106 ∷ 105 ∷ []))
    ∷ (third, (ids, Some (long 99), 108 ∷ 6 ∷ 0 ∷ [], 0, Some (long 98, 6), 111 ∷ 110 ∷ 109 ∷ 108 ∷ []))
    ∷ (fourth, (ids, Some (long 99), 114 ∷ 9 ∷ 0 ∷ [], 0, None, 112 ∷ []))
    ∷ (fifth, (ids, Some (long 99), 115 ∷ 9 ∷ 0 ∷ [], 0, None, 117 ∷ 116 ∷ 115 ∷ 114 ∷ 113 ∷ [])) ∷ [])

-- a date range is written as its line was read
abbrev pub DateRangesAreCarried : Type 0
DateRangesAreCarried = HasValues date_range_text ((record (tag (codes "b") 1) { attributes = codes "ID=\"b\",X-A=1" }, codes "ID=\"b\",X-A=1") ∷ [])
