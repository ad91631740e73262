-- Which playlist may follow which, and what a channel owes after decisions and refreshes.
use Rattle.std.specs.Prelude.{ℕ, zero, suc, length, ◌+◌, ◌*◌, ◌==◌, Bool, true, false, List, [], ◌∷◌, ◌++◌, map, codes, ℤ, pos, Option, Some, None, option_map, if◌then◌else◌}
use Rattle.playlist_model.specs.Segments.{Segment}
use Rattle.playlist_model.specs.declared.Playlist.{Playlist}
use Rattle.playlist_model.specs.declared.PlaylistKind.{PlaylistKind}
use Rattle.playlist_model.specs.declared.PlaylistKind.TheVariants.{Event, Vod}
use Rattle.playlist_model.specs.declared.DateRange.{DateRange}
use Rattle.pod_store.specs.Pods.{Pod}
use Rattle.pod_store.specs.Store.{Entry}
use Rattle.pod_store.specs.declared.Decisions.TheVariants.{Breaks, Withdraw, Fallback}
use Rattle.channel_spec.specs.declared.fault.RefreshFault.{RefreshFault}
use Rattle.channel_spec.specs.declared.fault.RefreshFault.TheVariants as fault
use Rattle.channel_spec.specs.declared.fault.RefreshFault.TheVariants.{VersionChanged, TargetChanged, TypeChanged, MapsChanged, Back, Gap, Shrunk, Changed, Ended, NumberRange, OutOfMemory}
use Rattle.channel_spec.specs.FaultTexts.{refresh_fault_text}
use Rattle.playlist_model.specs.declared.FaultKind.TheVariants.{NoDuration}
use Rattle.channel_spec.specs.Limits.{default_tolerance, max_tolerance}
use Rattle.channel_spec.specs.Live as live
use Rattle.channel_spec.specs.Live.{decided, refreshed, told, refusal}
use Rattle.channel_spec.specs.Successor.{successor_fault}
use Rattle.channel_spec.specs.Kept.{Kept, kept_of}
use Rattle.stitcher.specs.Paced.{PodRest}
use Rattle.worked_examples.specs.Playlists.{identity, under_key_1}
use Rattle.worked_examples.specs.Tables.{HasValues}

-- noon on the first of May 2024, and so many seconds
abbrev pub noon_and : ℕ → ℤ
noon_and seconds = pos (1714564800000000000 + seconds * 1000000000)

-- segment n of the origin has the URI n, lasts 10 s, and states noon if it is number 0
abbrev pub origin : ℕ → Segment
origin n = record { media_sequence = n; discontinuity_sequence = 5; discontinuities = 0; uri = n ∷ []; byte_range = None; keys = []; init_section = None; duration = 10000000000; title = []; program_date_time = if n == 0 then Some (noon_and 0) else None }

-- so many from number n on
abbrev pub segments : ℕ → ℕ → List Segment
segments n zero = []
segments n (suc count) = origin n ∷ segments (n + 1) count

abbrev pub plays : List DateRange → List Segment → Playlist
plays date_ranges segments = record { version = 3; target_duration = 10; playlist_type = None; independent_segments = false; end_list = false; date_ranges = date_ranges; segments = segments }

-- ---- which playlist may follow which

abbrev pub five : Playlist
five = plays [] (segments 10 5)

abbrev pub follows : Playlist × Playlist → Option RefreshFault
follows it = successor_fault it.0 it.1

-- RFC 8216, 6.2.1 and 6.2.2: what a client that holds the playlist before it may be given (N1 to N7 and N9), each told before the next
abbrev pub PlaylistsFollow : Type 0
PlaylistsFollow = HasValues (λ (new : Playlist). successor_fault five new) (
    (five, None)
    ∷ (plays [] (segments 11 5), None)
    ∷ (plays [] (segments 10 6), None)
    ∷ (plays [] (segments 15 1), None)
    ∷ (record five { end_list = true }, None)
    ∷ (record five { independent_segments = true }, None)
    ∷ (record five { version = 4 }, Some VersionChanged)
    ∷ (record five { version = 2 }, Some VersionChanged)
    ∷ (record five { target_duration = 11 }, Some TargetChanged)
    ∷ (record five { target_duration = 9 }, Some TargetChanged)
    ∷ (record five { version = 4; target_duration = 11 }, Some VersionChanged)
    ∷ (record five { playlist_type = Some Event }, Some TypeChanged)
    ∷ (record five { target_duration = 11; playlist_type = Some Event }, Some TargetChanged)
    ∷ (record five { segments = record (origin 10) { init_section = Some under_key_1 } ∷ segments 11 4 }, Some MapsChanged)
    ∷ (record five { playlist_type = Some Event; segments = record (origin 10) { init_section = Some under_key_1 } ∷ segments 11 4 }, Some TypeChanged)
    ∷ (record five { segments = record (origin 9) { init_section = Some under_key_1 } ∷ segments 10 5 }, Some MapsChanged)
    ∷ (plays [] (segments 9 6), Some Back)
    ∷ (plays [] (segments 9 5), Some Back)
    ∷ (plays [] (segments 16 5), Some Gap)
    ∷ (plays [] (segments 10 4), Some Shrunk)
    ∷ (plays [] (segments 11 3), Some Shrunk)
    ∷ (plays [] (origin 10 ∷ record (origin 11) { uri = codes "u" } ∷ segments 12 2), Some Shrunk)
    ∷ (plays [] (origin 10 ∷ record (origin 11) { uri = codes "u" } ∷ origin 12 ∷ record (origin 13) { uri = codes "u" } ∷ origin 14 ∷ []), Some (Changed 11)) ∷ [])

-- an EVENT stays one, and a VOD
abbrev pub TypesStay : Type 0
TypesStay = HasValues follows (
    ((record five { playlist_type = Some Event }, record five { playlist_type = Some Event }), None)
    ∷ ((record five { playlist_type = Some Vod }, record five { playlist_type = Some Vod }), None)
    ∷ ((record five { playlist_type = Some Event }, record five { playlist_type = Some Vod }), Some TypeChanged)
    ∷ ((record five { playlist_type = Some Event }, five), Some TypeChanged)
    ∷ ((record five { segments = record (origin 10) { init_section = Some under_key_1 } ∷ segments 11 4 }, five), Some MapsChanged) ∷ [])

-- the last of the five as this one
abbrev pub with_14 : Segment → Playlist
with_14 s = plays [] (segments 10 4 ++ s ∷ [])

abbrev pub stepped_14 : Segment
stepped_14 = record (origin 14) { discontinuity_sequence = 6; discontinuities = 1 }

-- discontinuity numbers go on from the last segment's, also of a list of one segment; an ended list of one may come again
abbrev pub LastSegmentsCount : Type 0
LastSegmentsCount = HasValues follows (
    ((five, with_14 (record (origin 14) { uri = codes "u" })), Some (Changed 14))
    ∷ ((with_14 stepped_14, with_14 stepped_14), None)
    ∷ ((plays [] (segments 10 2), plays [] (record (origin 12) { discontinuity_sequence = 4 } ∷ [])), Some (Changed 12))
    ∷ ((with_14 stepped_14, plays [] (record (origin 15) { discontinuity_sequence = 5 } ∷ [])), Some (Changed 15))
    ∷ ((with_14 stepped_14, plays [] (record (origin 15) { discontinuity_sequence = 1006 } ∷ [])), None)
    ∷ ((with_14 stepped_14, plays [] (record (origin 15) { discontinuity_sequence = 1007 } ∷ [])), Some (Changed 15))
    ∷ ((plays [] (segments 14 1), plays [] (record (origin 15) { discontinuity_sequence = 4 } ∷ [])), Some (Changed 15))
    ∷ ((plays [] (segments 14 1), plays [] (record (origin 15) { discontinuity_sequence = 1005 } ∷ [])), None)
    ∷ ((record (plays [] (segments 14 1)) { end_list = true }, record (plays [] (segments 14 1)) { end_list = true }), None) ∷ [])

-- segment 11 of the five as this one
abbrev pub with_11 : Segment → Playlist
with_11 s = plays [] (origin 10 ∷ s ∷ segments 12 3)

-- 6.2.1: a segment stays as it is (N8), except for its title, its time and its steps
abbrev pub SegmentsStay : Type 0
SegmentsStay = HasValues (λ (s : Segment). successor_fault five (with_11 s)) (
    (origin 11, None)
    ∷ (record (origin 11) { title = codes "t" }, None)
    ∷ (record (origin 11) { program_date_time = Some (pos 1) }, None)
    ∷ (record (origin 11) { uri = codes "u" }, Some (Changed 11))
    ∷ (record (origin 11) { byte_range = Some (record { length = 1; offset = 0 }) }, Some (Changed 11))
    ∷ (record (origin 11) { keys = identity (codes "a:k") (Some 1) ∷ [] }, Some (Changed 11))
    ∷ (record (origin 11) { duration = 9000000000 }, Some (Changed 11))
    ∷ (record (origin 11) { discontinuity_sequence = 6 }, Some (Changed 11)) ∷ [])

-- segments that follow the last one, of this discontinuity number
abbrev pub next_window : ℕ → Playlist
next_window discontinuity = plays [] (record (origin 15) { discontinuity_sequence = discontinuity } ∷ [])

-- docs/CONFORMANCE.md: after a whole window has gone the discontinuity number goes up by at most 1,000 (N8)
abbrev pub DiscontinuitiesFollow : Type 0
DiscontinuitiesFollow = HasValues (λ (n : ℕ). successor_fault five (next_window n)) (
    (5, None) ∷ (1005, None) ∷ (1006, Some (Changed 15)) ∷ (4, Some (Changed 15)) ∷ [])

-- 4.3.3.4: nothing follows EXT-X-ENDLIST but the same again (N9)
abbrev pub EndedStays : Type 0
EndedStays = HasValues (λ (new : Playlist). successor_fault (record five { end_list = true }) new) (
    (record five { end_list = true }, None)
    ∷ (five, Some Ended)
    ∷ (record (plays [] (segments 10 6)) { end_list = true }, Some Ended)
    ∷ (record (plays [] (segments 11 4)) { end_list = true }, Some Ended)
    ∷ (plays [] (segments 10 4), Some Shrunk)
    ∷ (with_11 (record (origin 11) { uri = codes "u" }), Some (Changed 11))
    ∷ (plays [] (record (origin 15) { discontinuity_sequence = 1006 } ∷ []), Some (Changed 15)) ∷ [])

-- docs/OPERATING.md: 100 ms if nothing else is asked, and 10 s at the most
abbrev pub TolerancesAreStated : Type 0
TolerancesAreStated = HasValues (λ (n : ℕ). n) ((default_tolerance, 100000000) ∷ (max_tolerance, 10000000000) ∷ [])

-- ---- what is owed

-- a date range that leaves the network at so many seconds after noon
abbrev pub tag : List ℕ → ℕ → DateRange
tag id seconds = record { id = id; start = Some (noon_and seconds); end = None; duration = None; planned_duration = None; scte35_out = Some (codes "0xFC302000000000000000FFF00F05000000017FFFFE002932E000010000000000000000"); scte35_in = None; attributes = id }

abbrev pub lasting : ℕ → DateRange → DateRange
lasting seconds one = record one { duration = Some (seconds * 1000000000) }

-- b lasts 30 s by its section
abbrev pub b : DateRange
b = tag (codes "b") 10

-- a pod of one ad, by its URIs; each segment lasts 10 s
abbrev pub pod : List ℕ → Pod
pod uris = record { ads = record { init_section = None; keys = []; segments = map (λ (n : ℕ). record { uri = n ∷ []; byte_range = None; duration = 10000000000 }) uris } ∷ [] }

abbrev pub decide : List ℕ → List ℕ → live.Event
decide id uris = decided (Breaks ((id, pod uris) ∷ []))

-- a window with these date ranges, from number n on, of so many segments
abbrev pub window : List DateRange → ℕ → ℕ → live.Event
window date_ranges n count = refreshed (plays date_ranges (segments n count))

-- what a channel of this tolerance owes after these events, the newest of which stands first
abbrev pub owed_by : ℕ → List live.Event → Option Playlist
owed_by tolerance events = live.owed (told tolerance events)

abbrev pub owed : List live.Event → Option Playlist
owed events = owed_by 100000000 events

-- a segment in short: URI, media number, discontinuity number, steps
abbrev pub brief : Segment → List ℕ
brief s = s.uri ++ s.media_sequence ∷ s.discontinuity_sequence ∷ s.discontinuities ∷ []

-- the segments that are owed after these events, the newest of which stands first
abbrev pub written : List live.Event → Option (List (List ℕ))
written events = option_map (λ (p : Playlist). map brief p.segments) (owed events)

abbrev pub decide_b : live.Event
decide_b = decide (codes "b") (1000 ∷ 1001 ∷ 1002 ∷ [])

abbrev pub written_by : ℕ × List live.Event → Option (List (List ℕ))
written_by it = option_map (λ (p : Playlist). map brief p.segments) (owed_by it.0 it.1)

-- docs/OPERATING.md: a pod goes through the window at the pace of its break; the rest of it at once if the break has ended, and
-- a break that is played is known although its tag has gone; what was written stays, also if a decision comes later; nothing is written before a refresh
abbrev pub BreaksAreFilled : Type 0
BreaksAreFilled = HasValues written (
    (decide_b ∷ [], None)
    ∷ (window (b ∷ []) 0 2 ∷ decide_b ∷ [], Some ((0 ∷ 0 ∷ 5 ∷ 0 ∷ []) ∷ (1000 ∷ 1 ∷ 6 ∷ 1 ∷ []) ∷ []))
    ∷ (window (b ∷ []) 1 2 ∷ window (b ∷ []) 0 2 ∷ decide_b ∷ [], Some ((1000 ∷ 1 ∷ 6 ∷ 1 ∷ []) ∷ (1001 ∷ 2 ∷ 6 ∷ 0 ∷ []) ∷ []))
    ∷ (window (b ∷ []) 0 5 ∷ decide_b ∷ [], Some ((0 ∷ 0 ∷ 5 ∷ 0 ∷ []) ∷ (1000 ∷ 1 ∷ 6 ∷ 1 ∷ []) ∷ (1001 ∷ 2 ∷ 6 ∷ 0 ∷ []) ∷ (1002 ∷ 3 ∷ 6 ∷ 0 ∷ []) ∷ (4 ∷ 4 ∷ 7 ∷ 1 ∷ []) ∷ []))
    ∷ (window (lasting 10 b ∷ []) 0 3 ∷ decide_b ∷ [], Some ((0 ∷ 0 ∷ 5 ∷ 0 ∷ []) ∷ (1000 ∷ 1 ∷ 6 ∷ 1 ∷ []) ∷ (1001 ∷ 2 ∷ 6 ∷ 0 ∷ []) ∷ (1002 ∷ 3 ∷ 6 ∷ 0 ∷ []) ∷ (2 ∷ 4 ∷ 7 ∷ 1 ∷ []) ∷ []))
    ∷ (refreshed (record (plays (b ∷ []) (segments 0 2)) { end_list = true }) ∷ decide_b ∷ [], Some ((0 ∷ 0 ∷ 5 ∷ 0 ∷ []) ∷ (1000 ∷ 1 ∷ 6 ∷ 1 ∷ []) ∷ (1001 ∷ 2 ∷ 6 ∷ 0 ∷ []) ∷ (1002 ∷ 3 ∷ 6 ∷ 0 ∷ []) ∷ []))
    ∷ (window (lasting 10 b ∷ []) 2 2 ∷ window (lasting 10 b ∷ []) 0 2 ∷ decide_b ∷ [], Some ((1001 ∷ 2 ∷ 6 ∷ 0 ∷ []) ∷ (1002 ∷ 3 ∷ 6 ∷ 0 ∷ []) ∷ (2 ∷ 4 ∷ 7 ∷ 1 ∷ []) ∷ (3 ∷ 5 ∷ 7 ∷ 0 ∷ []) ∷ []))
    ∷ (window (lasting 10 b ∷ []) 2 3 ∷ window (lasting 10 b ∷ []) 2 2 ∷ window (lasting 10 b ∷ []) 0 2 ∷ decide_b ∷ [], Some ((1001 ∷ 2 ∷ 6 ∷ 0 ∷ []) ∷ (1002 ∷ 3 ∷ 6 ∷ 0 ∷ []) ∷ (2 ∷ 4 ∷ 7 ∷ 1 ∷ []) ∷ (3 ∷ 5 ∷ 7 ∷ 0 ∷ []) ∷ (4 ∷ 6 ∷ 7 ∷ 0 ∷ []) ∷ []))
    ∷ (window (lasting 10 b ∷ []) 3 2 ∷ window (lasting 10 b ∷ []) 2 2 ∷ window (lasting 10 b ∷ []) 0 2 ∷ decide_b ∷ [], Some ((3 ∷ 5 ∷ 7 ∷ 0 ∷ []) ∷ (4 ∷ 6 ∷ 7 ∷ 0 ∷ []) ∷ []))
    ∷ (decide_b ∷ window (b ∷ []) 0 2 ∷ [], Some ((0 ∷ 0 ∷ 5 ∷ 0 ∷ []) ∷ (1 ∷ 1 ∷ 5 ∷ 0 ∷ []) ∷ []))
    ∷ (window (b ∷ []) 0 3 ∷ decide_b ∷ window (b ∷ []) 0 2 ∷ [], Some ((0 ∷ 0 ∷ 5 ∷ 0 ∷ []) ∷ (1 ∷ 1 ∷ 5 ∷ 0 ∷ []) ∷ (2 ∷ 2 ∷ 5 ∷ 0 ∷ []) ∷ []))
    ∷ (window [] 0 5 ∷ window (lasting 30 b ∷ []) 0 3 ∷ decide_b ∷ [], Some ((0 ∷ 0 ∷ 5 ∷ 0 ∷ []) ∷ (1000 ∷ 1 ∷ 6 ∷ 1 ∷ []) ∷ (1001 ∷ 2 ∷ 6 ∷ 0 ∷ []) ∷ (1002 ∷ 3 ∷ 6 ∷ 0 ∷ []) ∷ (4 ∷ 4 ∷ 7 ∷ 1 ∷ []) ∷ [])) ∷ [])

-- the break begins at 11 s, a second after segment 1: that enters it if the tolerance is a second
abbrev pub TolerancesCount : Type 0
TolerancesCount = HasValues written_by (
    ((1000000000, window (tag (codes "b") 11 ∷ []) 0 3 ∷ decide (codes "b") (1000 ∷ []) ∷ []), Some ((0 ∷ 0 ∷ 5 ∷ 0 ∷ []) ∷ (1000 ∷ 1 ∷ 6 ∷ 1 ∷ []) ∷ []))
    ∷ ((999999999, window (tag (codes "b") 11 ∷ []) 0 3 ∷ decide (codes "b") (1000 ∷ []) ∷ []), Some ((0 ∷ 0 ∷ 5 ∷ 0 ∷ []) ∷ (1 ∷ 1 ∷ 5 ∷ 0 ∷ []) ∷ (2 ∷ 2 ∷ 5 ∷ 0 ∷ []) ∷ [])) ∷ [])

-- four breaks, one after the other
abbrev pub four : List DateRange
four = lasting 10 b ∷ lasting 10 (tag (codes "c") 20) ∷ lasting 10 (tag (codes "d") 30) ∷ lasting 10 (tag (codes "e") 40) ∷ []

abbrev pub four_are_decided : List live.Event
four_are_decided = decide (codes "e") (4000 ∷ []) ∷ decide (codes "d") (3000 ∷ []) ∷ decide (codes "c") (2000 ∷ []) ∷ decide (codes "b") (1000 ∷ []) ∷ []

-- each is filled with its own pod; and one that begins within another isn't entered
abbrev pub SeveralAreFilled : Type 0
SeveralAreFilled = HasValues written (
    (window four 0 6 ∷ four_are_decided, Some ((0 ∷ 0 ∷ 5 ∷ 0 ∷ []) ∷ (1000 ∷ 1 ∷ 6 ∷ 1 ∷ []) ∷ (2000 ∷ 2 ∷ 7 ∷ 1 ∷ []) ∷ (3000 ∷ 3 ∷ 8 ∷ 1 ∷ []) ∷ (4000 ∷ 4 ∷ 9 ∷ 1 ∷ []) ∷ (5 ∷ 5 ∷ 10 ∷ 1 ∷ []) ∷ []))
    ∷ (window (b ∷ tag (codes "c") 20 ∷ []) 0 5 ∷ decide (codes "c") (2000 ∷ []) ∷ decide_b ∷ [], Some ((0 ∷ 0 ∷ 5 ∷ 0 ∷ []) ∷ (1000 ∷ 1 ∷ 6 ∷ 1 ∷ []) ∷ (1001 ∷ 2 ∷ 6 ∷ 0 ∷ []) ∷ (1002 ∷ 3 ∷ 6 ∷ 0 ∷ []) ∷ (4 ∷ 4 ∷ 7 ∷ 1 ∷ []) ∷ [])) ∷ [])

-- a refused refresh changes nothing, nor does a refused decision; a mark stands although the break's end is stated earlier later
-- on; two breaks that follow one another; a fallback; the origin goes on with a list of its own discontinuity number (6.2.2)
abbrev pub WindowsGoOn : Type 0
WindowsGoOn = HasValues written (
    (window (b ∷ []) 5 1 ∷ window (b ∷ []) 0 2 ∷ decide_b ∷ [], Some ((0 ∷ 0 ∷ 5 ∷ 0 ∷ []) ∷ (1000 ∷ 1 ∷ 6 ∷ 1 ∷ []) ∷ []))
    ∷ (decided (Withdraw (codes "b")) ∷ window (b ∷ []) 0 2 ∷ decide_b ∷ [], Some ((0 ∷ 0 ∷ 5 ∷ 0 ∷ []) ∷ (1000 ∷ 1 ∷ 6 ∷ 1 ∷ []) ∷ []))
    ∷ (window (b ∷ []) 0 2 ∷ decided (Withdraw (codes "b")) ∷ decide_b ∷ [], Some ((0 ∷ 0 ∷ 5 ∷ 0 ∷ []) ∷ (1 ∷ 1 ∷ 5 ∷ 0 ∷ []) ∷ []))
    ∷ (window (lasting 10 b ∷ []) 0 4 ∷ window (b ∷ []) 0 3 ∷ decide (codes "b") (1000 ∷ []) ∷ [], Some ((0 ∷ 0 ∷ 5 ∷ 0 ∷ []) ∷ (1000 ∷ 1 ∷ 6 ∷ 1 ∷ []) ∷ (3 ∷ 2 ∷ 7 ∷ 1 ∷ []) ∷ []))
    ∷ (window (lasting 10 b ∷ lasting 10 (tag (codes "c") 20) ∷ []) 0 4 ∷ decide (codes "c") (2000 ∷ []) ∷ decide (codes "b") (1000 ∷ []) ∷ [], Some ((0 ∷ 0 ∷ 5 ∷ 0 ∷ []) ∷ (1000 ∷ 1 ∷ 6 ∷ 1 ∷ []) ∷ (2000 ∷ 2 ∷ 7 ∷ 1 ∷ []) ∷ (3 ∷ 3 ∷ 8 ∷ 1 ∷ []) ∷ []))
    ∷ (window (lasting 10 b ∷ []) 0 3 ∷ decided (Fallback (pod (3000 ∷ []))) ∷ [], Some ((0 ∷ 0 ∷ 5 ∷ 0 ∷ []) ∷ (3000 ∷ 1 ∷ 6 ∷ 1 ∷ []) ∷ (2 ∷ 2 ∷ 7 ∷ 1 ∷ []) ∷ []))
    ∷ (refreshed (plays [] (record (origin 2) { discontinuity_sequence = 9 } ∷ [])) ∷ window [] 0 2 ∷ [], Some ((2 ∷ 2 ∷ 9 ∷ 4 ∷ []) ∷ [])) ∷ [])

-- the break that is carried into the next refresh
abbrev pub carried : List live.Event → Option (List ℕ)
carried events = (live.acceptance (told 100000000 events) five).carried

-- docs/OPERATING.md: a break that is played is known although its tag has gone. It is the one of the newest segment; a break that
-- is over isn't carried on
abbrev pub BreaksAreCarried : Type 0
BreaksAreCarried = HasValues carried (
    ([], None)
    ∷ (window (b ∷ []) 0 2 ∷ decide_b ∷ [], Some (codes "b"))
    ∷ (window (lasting 10 b ∷ []) 0 2 ∷ decide_b ∷ [], Some (codes "b"))
    ∷ (window (lasting 10 b ∷ []) 0 3 ∷ decide_b ∷ [], None)
    ∷ (window four 0 3 ∷ four_are_decided, Some (codes "c")) ∷ [])

abbrev pub header_and_ids : Playlist → (ℕ × ℕ × Bool) × List (List ℕ) × List (Option ℤ)
header_and_ids p = ((p.version, p.target_duration, p.end_list), map (λ (r : DateRange). r.id) p.date_ranges, map (λ (s : Segment). s.program_date_time) p.segments)

-- the header, the IDs of the date ranges and the times that are owed
abbrev pub header_owed : List live.Event → Option ((ℕ × ℕ × Bool) × List (List ℕ) × List (Option ℤ))
header_owed events = option_map header_and_ids (owed events)

-- docs/CONFORMANCE.md: the version is 6 at least (RFC 8216, 7), a date range is left out while its break is in use, and all are
-- if no written segment states a time (4.3.2.7); each origin segment states the time at which it begins (4.3.2.6)
abbrev pub HeadersAreOwed : Type 0
HeadersAreOwed = HasValues header_owed (
    (window (b ∷ tag (codes "c") 90 ∷ []) 0 2 ∷ [], Some ((6, 10, false), codes "b" ∷ codes "c" ∷ [], Some (noon_and 0) ∷ Some (noon_and 10) ∷ []))
    ∷ (window (tag (codes "f") 90 ∷ four) 0 6 ∷ four_are_decided, Some ((6, 10, false), codes "f" ∷ [], Some (noon_and 0) ∷ None ∷ None ∷ None ∷ None ∷ Some (noon_and 50) ∷ []))
    ∷ (refreshed (record (plays (b ∷ []) (segments 0 1)) { version = 7; end_list = true }) ∷ [], Some ((7, 10, true), codes "b" ∷ [], Some (noon_and 0) ∷ []))
    ∷ (window (b ∷ tag (codes "c") 90 ∷ []) 0 2 ∷ decide_b ∷ [], Some ((6, 10, false), codes "c" ∷ [], Some (noon_and 0) ∷ None ∷ []))
    ∷ (window (b ∷ tag (codes "c") 90 ∷ []) 1 2 ∷ window (b ∷ tag (codes "c") 90 ∷ []) 0 2 ∷ decide_b ∷ [], Some ((6, 10, false), [], None ∷ None ∷ []))
    ∷ (window (b ∷ []) 5 2 ∷ window (b ∷ []) 4 2 ∷ window (b ∷ []) 3 2 ∷ window (b ∷ []) 0 4 ∷ decide_b ∷ [], Some ((6, 10, false), [], Some (noon_and 50) ∷ Some (noon_and 60) ∷ [])) ∷ [])

abbrev pub type_owed : List live.Event → Option (Option PlaylistKind × Bool)
type_owed events = option_map (λ (p : Playlist). (p.playlist_type, p.independent_segments)) (owed events)

-- the playlist's type and EXT-X-INDEPENDENT-SEGMENTS are those of the last accepted refresh (4.3.3.5, 4.3.5.1)
abbrev pub TypesAreOwed : Type 0
TypesAreOwed = HasValues type_owed (
    (refreshed (record (plays [] (segments 0 2)) { playlist_type = Some Event; independent_segments = true }) ∷ [], Some (Some Event, true))
    ∷ (refreshed (record (plays [] (segments 0 2)) { playlist_type = Some Vod }) ∷ [], Some (Some Vod, false))
    ∷ (refreshed (record (plays [] (segments 0 2)) { independent_segments = true }) ∷ window [] 0 2 ∷ [], Some (None, true)) ∷ [])

abbrev pub stored : List live.Event → List (List ℕ × Bool)
stored events = map (λ (e : Entry). (e.id, e.used)) (told 100000000 events).store.entries

-- a break in use keeps its pod: while a segment of it is written, and while it is the last one entered; then the pod goes
abbrev pub PodsAreKept : Type 0
PodsAreKept = HasValues stored (
    (decide_b ∷ [], (codes "b", false) ∷ [])
    ∷ (window (b ∷ []) 0 2 ∷ decide_b ∷ [], (codes "b", true) ∷ [])
    ∷ (decided (Withdraw (codes "b")) ∷ window (b ∷ []) 0 2 ∷ decide_b ∷ [], (codes "b", true) ∷ [])
    ∷ (window (lasting 10 b ∷ []) 3 2 ∷ window (lasting 10 b ∷ []) 0 3 ∷ decide_b ∷ [], (codes "b", true) ∷ [])
    ∷ (window (lasting 10 b ∷ lasting 10 (tag (codes "c") 20) ∷ []) 2 2 ∷ window (lasting 10 b ∷ lasting 10 (tag (codes "c") 20) ∷ []) 0 2 ∷ decide (codes "c") (2000 ∷ []) ∷ decide_b ∷ [], (codes "b", true) ∷ (codes "c", true) ∷ [])
    ∷ (window (lasting 10 b ∷ lasting 10 (tag (codes "c") 20) ∷ []) 2 1 ∷ window (lasting 10 b ∷ lasting 10 (tag (codes "c") 20) ∷ []) 0 2 ∷ decide (codes "c") (2000 ∷ []) ∷ decide_b ∷ [], (codes "b", true) ∷ (codes "c", true) ∷ [])
    ∷ (window (lasting 10 b ∷ lasting 10 (tag (codes "c") 20) ∷ []) 3 2 ∷ window (lasting 10 b ∷ lasting 10 (tag (codes "c") 20) ∷ []) 2 2 ∷ window (lasting 10 b ∷ lasting 10 (tag (codes "c") 20) ∷ []) 0 2 ∷ decide (codes "c") (2000 ∷ []) ∷ decide_b ∷ [], (codes "c", true) ∷ []) ∷ [])

abbrev pub kept_briefly : Kept → Option (List ℕ) × List ℕ × ℕ × Option ℕ × ℕ
kept_briefly kept = (kept.entered, kept.numbers.media_sequence ∷ kept.numbers.discontinuity_sequence ∷ kept.numbers.discontinuities ∷ [], kept.so_far, option_map (λ (rest : PodRest). rest.place) kept.rest, length kept.shown)

-- the last break entered, the numbers of the window's first item, how long the newest run has lasted, the place in the pod that the
-- window starts with, and how many segments are shown
abbrev pub kept : List live.Event → Option (List ℕ) × List ℕ × ℕ × Option ℕ × ℕ
kept events = kept_briefly (kept_of (told 100000000 events))

-- docs/ARCHITECTURE.md, "What a channel keeps": of a run's length at most a nanosecond more than its pod counts
abbrev pub StatesAreKept : Type 0
StatesAreKept = HasValues kept (
    ([], (None, 0 ∷ 0 ∷ 0 ∷ [], 0, None, 0))
    ∷ (window (b ∷ []) 0 2 ∷ decide_b ∷ [], (Some (codes "b"), 0 ∷ 5 ∷ 0 ∷ [], 10000000000, None, 2))
    ∷ (window (b ∷ []) 1 2 ∷ window (b ∷ []) 0 2 ∷ decide_b ∷ [], (Some (codes "b"), 1 ∷ 6 ∷ 1 ∷ [], 20000000000, None, 2))
    ∷ (window (b ∷ []) 0 4 ∷ decide (codes "b") (1000 ∷ []) ∷ [], (Some (codes "b"), 0 ∷ 5 ∷ 0 ∷ [], 10000000001, None, 4))
    ∷ (window (lasting 10 b ∷ []) 2 2 ∷ window (lasting 10 b ∷ []) 0 2 ∷ decide_b ∷ [], (Some (codes "b"), 2 ∷ 6 ∷ 0 ∷ [], 0, Some 1, 2))
    ∷ (window (lasting 10 b ∷ []) 2 1 ∷ window (lasting 10 b ∷ []) 0 2 ∷ decide_b ∷ [], (Some (codes "b"), 2 ∷ 6 ∷ 0 ∷ [], 0, Some 1, 1)) ∷ [])

-- docs/OPERATING.md, "Faults"
abbrev pub RefreshFaultsAreTold : Type 0
RefreshFaultsAreTold = HasValues refresh_fault_text (
    (fault.Playlist (record { kind = NoDuration; line = 12 }), codes "P17 NoDuration line 12")
    ∷ (VersionChanged, codes "N1 VersionChanged")
    ∷ (TargetChanged, codes "N2 TargetChanged")
    ∷ (TypeChanged, codes "N3 TypeChanged")
    ∷ (MapsChanged, codes "N4 MapsChanged")
    ∷ (Back, codes "N5 Back")
    ∷ (Gap, codes "N6 Gap")
    ∷ (Shrunk, codes "N7 Shrunk")
    ∷ (Changed 120, codes "N8 Changed 120")
    ∷ (Ended, codes "N9 Ended")
    ∷ (NumberRange, codes "N10 NumberRange")
    ∷ (OutOfMemory, codes "N11 OutOfMemory") ∷ [])

abbrev pub refused : List live.Event × Playlist → Option RefreshFault
refused it = refusal 100000000 (told 100000000 it.0) it.1

-- the last segment but two, and the last three: the last but one is in a break whose pod has two segments
abbrev pub before_last : List live.Event
before_last = refreshed (plays [] (record (origin 18446744073709551613) { program_date_time = Some (noon_and 0) } ∷ [])) ∷ decide (codes "b") (1000 ∷ 1001 ∷ []) ∷ []

abbrev pub last_two : Playlist
last_two = plays (lasting 10 b ∷ []) (record (origin 18446744073709551613) { program_date_time = Some (noon_and 0) } ∷ segments 18446744073709551614 2)

-- a refresh that may not follow is refused for that first; the newest segment has number 2^64 - 1, and a pod of two stands before it (N10)
abbrev pub LastNumbersAreRefused : Type 0
LastNumbersAreRefused = HasValues refused (
    (([], plays [] (segments 18446744073709551615 1)), None)
    ∷ ((decide (codes "b") (1000 ∷ 1001 ∷ []) ∷ [], plays (lasting 10 b ∷ []) (record (origin 18446744073709551614) { program_date_time = Some (noon_and 10) } ∷ origin 18446744073709551615 ∷ [])), Some NumberRange)
    ∷ ((decide (codes "b") (1000 ∷ []) ∷ [], plays (lasting 10 b ∷ []) (record (origin 18446744073709551614) { program_date_time = Some (noon_and 10) } ∷ origin 18446744073709551615 ∷ [])), None)
    ∷ ((window [] 0 2 ∷ [], plays [] (segments 3 2)), Some Gap)
    ∷ ((before_last, last_two), Some NumberRange)
    ∷ ((before_last, record last_two { version = 4 }), Some VersionChanged) ∷ [])
