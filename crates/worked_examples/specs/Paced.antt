-- Pods at the pace of their runs, and fallbacks: what is written after decisions and refreshes, the newest of which stands first.
use Rattle.std.specs.Prelude.{ℕ, zero, suc, ◌+◌, ◌*◌, ◌==◌, Bool, true, false, List, [], ◌∷◌, ◌++◌, map, codes, ℤ, pos, ◌+ℤ◌, Option, Some, None, option_map, Err, if◌then◌else◌}
use Rattle.playlist_model.specs.Segments.{Segment}
use Rattle.playlist_model.specs.declared.Playlist.{Playlist}
use Rattle.playlist_model.specs.declared.DateRange.{DateRange}
use Rattle.pod_store.specs.Pods.{Pod}
use Rattle.pod_store.specs.declared.Decisions.{Decisions}
use Rattle.pod_store.specs.declared.Decisions.TheVariants.{Breaks, Withdraw, Fallback, NoFallback}
use Rattle.pod_store.specs.declared.fault.DecisionKind.{DecisionKind}
use Rattle.pod_store.specs.declared.fault.DecisionKind.TheVariants.{Used, Unknown}
use Rattle.pod_store.specs.Store.{Entry, Store}
use Rattle.pod_store.specs.Store.{decided as after_decisions}
use Rattle.pod_store.specs.Outcome.{DecisionOutcome, fault_at, nowhere}
use Rattle.channel_spec.specs.Live.{Event, decided, refreshed, told, owed}
use Rattle.worked_examples.specs.Tables.{HasValues}

-- so many tenths of a second after noon
abbrev pub at_tenths : ℕ → ℤ
at_tenths n = pos 1714564800000000000 +ℤ pos (n * 100000000)

abbrev pub origin : ℕ → Option ℤ → Segment
origin n time = record { media_sequence = n; discontinuity_sequence = 0; discontinuities = 0; uri = n ∷ []; byte_range = None; keys = []; init_section = None; duration = 10000000000; title = []; program_date_time = time }

-- so many segments from number n on
abbrev pub segments : ℕ → ℕ → List Segment
segments n zero = []
segments n (suc k) = origin n (if n == 0 then Some (at_tenths 0) else None) ∷ segments (n + 1) k

abbrev pub tag : List ℕ → ℕ → DateRange
tag id tenths = record { id = id; start = Some (at_tenths tenths); end = None; duration = None; planned_duration = None; scte35_out = Some (codes "0xFC302000000000000000FFF00F05000000017FFFFE002932E000010000000000000000"); scte35_in = None; attributes = id }

abbrev pub lasting : ℕ → DateRange → DateRange
lasting seconds t = record t { duration = Some (seconds * 1000000000) }

abbrev pub b1 : DateRange
b1 = tag (codes "b1") 100

abbrev pub plays : Bool → List DateRange → List Segment → Playlist
plays ended date_ranges segments = record { version = 3; target_duration = 10; playlist_type = None; independent_segments = false; end_list = ended; date_ranges = date_ranges; segments = segments }

-- a pod of one ad, by URIs and tenths of seconds
abbrev pub pod : List (ℕ × ℕ) → Pod
pod parts = record { ads = record { init_section = None; keys = []; segments = map (λ (p : ℕ × ℕ). record { uri = p.0 ∷ []; byte_range = None; duration = p.1 * 100000000 }) parts } ∷ [] }

abbrev pub ab : Pod
ab = pod ((1000, 80) ∷ (1001, 95) ∷ [])

abbrev pub brief : Segment → List ℕ
brief s = s.uri ++ s.media_sequence ∷ s.discontinuity_sequence ∷ s.discontinuities ∷ []

abbrev pub tolerance : ℕ
tolerance = 100000000

-- what is written after these events, the newest first
abbrev pub written : List Event → Option (List (List ℕ))
written events = option_map (λ (p : Playlist). map brief p.segments) (owed (told tolerance events))

abbrev pub times : List Event → Option (List (Option ℤ))
times events = option_map (λ (p : Playlist). map (λ (s : Segment). s.program_date_time) p.segments) (owed (told tolerance events))

abbrev pub decide_b1 : Event
decide_b1 = decided (Breaks ((codes "b1", ab) ∷ []))

-- a window of three from number n, with the tag of b1
abbrev pub three : ℕ → Event
three n = refreshed (plays false (b1 ∷ []) (segments n 3))

-- three segments of 10 s
abbrev pub x3 : Pod
x3 = pod ((2000, 100) ∷ (2001, 100) ∷ (2002, 100) ∷ [])

-- one of 10 s, and two that last nothing
abbrev pub x1 : Pod
x1 = pod ((2000, 100) ∷ (2001, 0) ∷ (2002, 0) ∷ [])

abbrev pub decide_pod : List ℕ → Pod → Event
decide_pod id pod = decided (Breaks ((id, pod) ∷ []))

-- an end that is said by a section of its own
abbrev pub ended_by_section : DateRange → DateRange
ended_by_section t = record t { scte35_in = Some (codes "0xFC301B00000000000000FFF00A05000000017F5F00010000000000000000") }

-- so many segments from number n on, with these tags
abbrev pub some_from : List DateRange → ℕ → ℕ → Event
some_from tags n k = refreshed (plays false tags (segments n k))

abbrev pub two : DateRange → ℕ → Event
two tag n = some_from (tag ∷ []) n 2

-- the date ranges that are written, by their IDs
abbrev pub dated : List Event → Option (List (List ℕ))
dated events = option_map (λ (p : Playlist). map (λ (r : DateRange). r.id) p.date_ranges) (owed (told tolerance events))

-- the breaks that have a pod, by their IDs
abbrev pub stored : List Event → List (List ℕ)
stored events = map (λ (e : Entry). e.id) (told tolerance events).store.entries

-- a fallback of 10 s of this URI
abbrev pub falls_to : ℕ → Event
falls_to uri = decided (Fallback (pod ((uri, 100) ∷ [])))

abbrev pub falls_to_ab : Event
falls_to_ab = decided (Fallback ab)

abbrev pub falls_to_none : Event
falls_to_none = decided NoFallback

abbrev pub withdraw_b1 : Event
withdraw_b1 = decided (Withdraw (codes "b1"))

-- a pod of 20 s for b1, which is longer than the target
abbrev pub decide_long : Event
decide_long = decided (Breaks ((codes "b1", pod ((4000, 200) ∷ [])) ∷ []))

-- five segments with b1 in them
abbrev pub five : Event
five = refreshed (plays true (b1 ∷ []) (segments 0 5))

abbrev pub b2 : DateRange
b2 = lasting 10 (tag (codes "b2") 300)

-- a window of three from number n, with b1 and b2 of 10 s each
abbrev pub three_of_two : ℕ → Event
three_of_two n = refreshed (plays false (lasting 10 b1 ∷ b2 ∷ []) (segments n 3))

-- b1 at T+10 and b2 at T+50, each of 10 s, with these segments
abbrev pub turns : List Segment → Event
turns shown = refreshed (plays false (lasting 10 b1 ∷ lasting 10 (tag (codes "b2") 500) ∷ []) shown)

-- number n, at so many tenths of a second
abbrev pub at : ℕ → ℕ → Segment
at n tenths = origin n (Some (at_tenths tenths))

-- b2 between segments that are kept, b1 before it, and b1 once more after it
abbrev pub b2_alone : List Segment
b2_alone = at 2 1000 ∷ at 3 500 ∷ at 4 1000 ∷ []

abbrev pub b1_and_b2 : List Segment
b1_and_b2 = at 0 0 ∷ at 1 100 ∷ b2_alone

abbrev pub b2_and_b1 : List Segment
b2_and_b1 = at 2 1000 ∷ at 3 500 ∷ at 4 1000 ∷ at 5 100 ∷ []

-- what decisions come to then
abbrev pub outcome : List Event → Decisions → DecisionOutcome Store
outcome events decisions = after_decisions (told tolerance events).store decisions

abbrev pub refused_as : DecisionKind → DecisionOutcome Store
refused_as kind = Err (fault_at nowhere kind)

-- b1 and b2, one after the other, of 10 s each
abbrev pub b1_then_b2 : List DateRange
b1_then_b2 = lasting 10 b1 ∷ lasting 10 (tag (codes "b2") 200) ∷ []

abbrev pub both_decided : List Event
both_decided = decide_pod (codes "b2") (pod ((3000, 100) ∷ [])) ∷ decide_pod (codes "b1") x3 ∷ []

-- ---- tables

-- docs/OPERATING.md: a break of two ads goes through a window of three segments. Its pod leaves as a whole, once the break has left
abbrev pub BreaksGoThrough : Type 0
BreaksGoThrough = HasValues written (
    (three 0 ∷ decide_b1 ∷ [], Some ((0 ∷ 0 ∷ 0 ∷ 0 ∷ []) ∷ (1000 ∷ 1 ∷ 1 ∷ 1 ∷ []) ∷ (1001 ∷ 2 ∷ 1 ∷ 0 ∷ []) ∷ []))
    ∷ (three 1 ∷ three 0 ∷ decide_b1 ∷ [], Some ((1000 ∷ 1 ∷ 1 ∷ 1 ∷ []) ∷ (1001 ∷ 2 ∷ 1 ∷ 0 ∷ []) ∷ []))
    ∷ (three 2 ∷ three 1 ∷ three 0 ∷ decide_b1 ∷ [], Some ((1000 ∷ 1 ∷ 1 ∷ 1 ∷ []) ∷ (1001 ∷ 2 ∷ 1 ∷ 0 ∷ []) ∷ (4 ∷ 3 ∷ 2 ∷ 1 ∷ []) ∷ []))
    ∷ (three 5 ∷ three 4 ∷ three 3 ∷ three 2 ∷ three 1 ∷ three 0 ∷ decide_b1 ∷ [], Some ((5 ∷ 4 ∷ 2 ∷ 0 ∷ []) ∷ (6 ∷ 5 ∷ 2 ∷ 0 ∷ []) ∷ (7 ∷ 6 ∷ 2 ∷ 0 ∷ []) ∷ [])) ∷ [])

-- a pod of three segments goes on with its run, a segment of it for one of the run
abbrev pub PodsGoOnWithRuns : Type 0
PodsGoOnWithRuns = HasValues written (
    (two b1 2 ∷ two b1 1 ∷ two b1 0 ∷ decide_pod (codes "b1") x3 ∷ [], Some ((2000 ∷ 1 ∷ 1 ∷ 1 ∷ []) ∷ (2001 ∷ 2 ∷ 1 ∷ 0 ∷ []) ∷ (2002 ∷ 3 ∷ 1 ∷ 0 ∷ []) ∷ []))
    ∷ (two b1 3 ∷ two b1 2 ∷ two b1 1 ∷ two b1 0 ∷ decide_pod (codes "b1") x3 ∷ [], Some ((2000 ∷ 1 ∷ 1 ∷ 1 ∷ []) ∷ (2001 ∷ 2 ∷ 1 ∷ 0 ∷ []) ∷ (2002 ∷ 3 ∷ 1 ∷ 0 ∷ []) ∷ (4 ∷ 4 ∷ 2 ∷ 1 ∷ []) ∷ []))
    ∷ (two b1 4 ∷ two b1 3 ∷ two b1 2 ∷ two b1 1 ∷ two b1 0 ∷ decide_pod (codes "b1") x3 ∷ [], Some ((4 ∷ 4 ∷ 2 ∷ 1 ∷ []) ∷ (5 ∷ 5 ∷ 2 ∷ 0 ∷ []) ∷ []))
    ∷ (some_from (ended_by_section b1 ∷ []) 0 3 ∷ two b1 0 ∷ decide_pod (codes "b1") x3 ∷ [], Some ((0 ∷ 0 ∷ 0 ∷ 0 ∷ []) ∷ (2000 ∷ 1 ∷ 1 ∷ 1 ∷ []) ∷ (2001 ∷ 2 ∷ 1 ∷ 0 ∷ []) ∷ (2002 ∷ 3 ∷ 1 ∷ 0 ∷ []) ∷ (2 ∷ 4 ∷ 2 ∷ 1 ∷ []) ∷ []))
    ∷ (two (lasting 20 b1) 1 ∷ two (lasting 20 b1) 0 ∷ decide_pod (codes "b1") x3 ∷ [], Some ((2000 ∷ 1 ∷ 1 ∷ 1 ∷ []) ∷ (2001 ∷ 2 ∷ 1 ∷ 0 ∷ []) ∷ []))
    ∷ (two (lasting 20 b1) 3 ∷ two (lasting 20 b1) 1 ∷ two (lasting 20 b1) 0 ∷ decide_pod (codes "b1") x3 ∷ [], Some ((2002 ∷ 3 ∷ 1 ∷ 0 ∷ []) ∷ (3 ∷ 4 ∷ 2 ∷ 1 ∷ []) ∷ (4 ∷ 5 ∷ 2 ∷ 0 ∷ []) ∷ []))
    ∷ (two (lasting 20 b1) 4 ∷ two (lasting 20 b1) 3 ∷ two (lasting 20 b1) 1 ∷ two (lasting 20 b1) 0 ∷ decide_pod (codes "b1") x3 ∷ [], Some ((4 ∷ 5 ∷ 2 ∷ 0 ∷ []) ∷ (5 ∷ 6 ∷ 2 ∷ 0 ∷ []) ∷ []))
    ∷ (two (lasting 10 b1) 3 ∷ some_from (lasting 10 b1 ∷ []) 2 3 ∷ two (lasting 10 b1) 2 ∷ two (lasting 10 b1) 0 ∷ decide_pod (codes "b1") x3 ∷ [], Some ((3 ∷ 5 ∷ 2 ∷ 0 ∷ []) ∷ (4 ∷ 6 ∷ 2 ∷ 0 ∷ []) ∷ [])) ∷ [])

-- segments that last nothing are shown once the run lasts longer than the pod
abbrev pub NothingIsShownAtOnce : Type 0
NothingIsShownAtOnce = HasValues written (
    (two b1 0 ∷ decide_pod (codes "b1") x1 ∷ [], Some ((0 ∷ 0 ∷ 0 ∷ 0 ∷ []) ∷ (2000 ∷ 1 ∷ 1 ∷ 1 ∷ []) ∷ []))
    ∷ (some_from (b1 ∷ []) 0 3 ∷ two b1 0 ∷ decide_pod (codes "b1") x1 ∷ [], Some ((0 ∷ 0 ∷ 0 ∷ 0 ∷ []) ∷ (2000 ∷ 1 ∷ 1 ∷ 1 ∷ []) ∷ (2001 ∷ 2 ∷ 1 ∷ 0 ∷ []) ∷ (2002 ∷ 3 ∷ 1 ∷ 0 ∷ []) ∷ []))
    ∷ (two b1 2 ∷ some_from (b1 ∷ []) 0 3 ∷ two b1 0 ∷ decide_pod (codes "b1") x1 ∷ [], Some ((2000 ∷ 1 ∷ 1 ∷ 1 ∷ []) ∷ (2001 ∷ 2 ∷ 1 ∷ 0 ∷ []) ∷ (2002 ∷ 3 ∷ 1 ∷ 0 ∷ []) ∷ [])) ∷ [])

-- the first segment of a break begins 100 ms after its START-DATE, or a tenth of a second later; an instant is reckoned back from
-- the first one that is stated
abbrev pub InstantsCount : Type 0
InstantsCount = HasValues written (
    (refreshed (plays true (b1 ∷ []) (origin 0 (Some (at_tenths 0)) ∷ origin 1 (Some (at_tenths 101)) ∷ [])) ∷ decide_b1 ∷ [], Some ((0 ∷ 0 ∷ 0 ∷ 0 ∷ []) ∷ (1000 ∷ 1 ∷ 1 ∷ 1 ∷ []) ∷ (1001 ∷ 2 ∷ 1 ∷ 0 ∷ []) ∷ []))
    ∷ (refreshed (plays true (b1 ∷ []) (origin 0 (Some (at_tenths 0)) ∷ origin 1 (Some (at_tenths 102)) ∷ [])) ∷ decide_b1 ∷ [], Some ((0 ∷ 0 ∷ 0 ∷ 0 ∷ []) ∷ (1 ∷ 1 ∷ 0 ∷ 0 ∷ []) ∷ []))
    ∷ (
      refreshed (plays true (b1 ∷ []) (origin 0 None ∷ origin 1 None ∷ origin 2 None ∷ origin 3 None ∷ origin 4 None ∷ origin 5 (Some (at_tenths 500)) ∷ [])) ∷ decide_b1 ∷ [],
      Some ((0 ∷ 0 ∷ 0 ∷ 0 ∷ []) ∷ (1000 ∷ 1 ∷ 1 ∷ 1 ∷ []) ∷ (1001 ∷ 2 ∷ 1 ∷ 0 ∷ []) ∷ (4 ∷ 3 ∷ 2 ∷ 1 ∷ []) ∷ (5 ∷ 4 ∷ 2 ∷ 0 ∷ []) ∷ []),
    )
    ∷ (
      refreshed (plays true (lasting 10 (tag (codes "b1") 0) ∷ []) (origin 0 None ∷ origin 1 None ∷ origin 2 None ∷ origin 3 None ∷ origin 4 None ∷ origin 5 (Some (at_tenths 500)) ∷ [])) ∷ decide_b1 ∷ [],
      Some ((1000 ∷ 0 ∷ 1 ∷ 1 ∷ []) ∷ (1001 ∷ 1 ∷ 1 ∷ 0 ∷ []) ∷ (1 ∷ 2 ∷ 2 ∷ 1 ∷ []) ∷ (2 ∷ 3 ∷ 2 ∷ 0 ∷ []) ∷ (3 ∷ 4 ∷ 2 ∷ 0 ∷ []) ∷ (4 ∷ 5 ∷ 2 ∷ 0 ∷ []) ∷ (5 ∷ 6 ∷ 2 ∷ 0 ∷ []) ∷ []),
    ) ∷ [])

-- 4.3.2.6: a segment before the first stated time has its own by durations; the segments of a pod state none
abbrev pub TimesAreReckoned : Type 0
TimesAreReckoned = HasValues times (
    (refreshed (plays true (b1 ∷ []) (origin 0 None ∷ origin 1 (Some (at_tenths 100)) ∷ [])) ∷ decide_b1 ∷ [], Some (Some (at_tenths 0) ∷ None ∷ None ∷ []))
    ∷ (
      refreshed (plays true [] (origin 0 None ∷ origin 1 None ∷ origin 2 None ∷ origin 3 None ∷ origin 4 None ∷ origin 5 (Some (at_tenths 500)) ∷ [])) ∷ [],
      Some (Some (at_tenths 0) ∷ Some (at_tenths 100) ∷ Some (at_tenths 200) ∷ Some (at_tenths 300) ∷ Some (at_tenths 400) ∷ Some (at_tenths 500) ∷ []),
    ) ∷ [])

-- the rest of a pod, and the pod of the break after it
abbrev pub RestsAreWritten : Type 0
RestsAreWritten = HasValues written (
    (some_from b1_then_b2 2 2 ∷ some_from b1_then_b2 0 2 ∷ both_decided, Some ((2001 ∷ 2 ∷ 1 ∷ 0 ∷ []) ∷ (2002 ∷ 3 ∷ 1 ∷ 0 ∷ []) ∷ (3000 ∷ 4 ∷ 2 ∷ 1 ∷ []) ∷ (3 ∷ 5 ∷ 3 ∷ 1 ∷ []) ∷ [])) ∷ [])

-- a break is in use while the rest of its pod is written: its date range isn't written. Then it is
abbrev pub DateRangesComeBack : Type 0
DateRangesComeBack = HasValues dated (
    (some_from b1_then_b2 2 2 ∷ some_from b1_then_b2 0 2 ∷ both_decided, Some [])
    ∷ (some_from b1_then_b2 3 2 ∷ some_from b1_then_b2 2 2 ∷ some_from b1_then_b2 0 2 ∷ both_decided, Some (codes "b1" ∷ [])) ∷ [])

-- five breaks, one after the other
abbrev pub five_in_a_row : List DateRange
five_in_a_row = lasting 10 b1 ∷ lasting 10 (tag (codes "b2") 200) ∷ lasting 10 (tag (codes "b3") 300) ∷ lasting 10 (tag (codes "b4") 400) ∷ lasting 10 (tag (codes "b5") 500) ∷ []

-- its pod is kept as long; copies of the fallback stand in the order in which their breaks were entered
abbrev pub PodsGo : Type 0
PodsGo = HasValues stored (
    (some_from b1_then_b2 2 2 ∷ some_from b1_then_b2 0 2 ∷ both_decided, codes "b1" ∷ codes "b2" ∷ [])
    ∷ (some_from b1_then_b2 3 2 ∷ some_from b1_then_b2 2 2 ∷ some_from b1_then_b2 0 2 ∷ both_decided, codes "b2" ∷ [])
    ∷ (turns b1_and_b2 ∷ falls_to 2000 ∷ [], codes "b1" ∷ codes "b2" ∷ [])
    ∷ (some_from five_in_a_row 0 7 ∷ falls_to 2000 ∷ [], codes "b1" ∷ codes "b2" ∷ codes "b3" ∷ codes "b4" ∷ codes "b5" ∷ []) ∷ [])

-- docs/OPERATING.md: a run keeps the fallback that it was entered with, whatever the fallback becomes
abbrev pub FallbacksStay : Type 0
FallbacksStay = HasValues written (
    (five ∷ falls_to 3000 ∷ five ∷ falls_to 2000 ∷ [], Some ((0 ∷ 0 ∷ 0 ∷ 0 ∷ []) ∷ (2000 ∷ 1 ∷ 1 ∷ 1 ∷ []) ∷ (4 ∷ 2 ∷ 2 ∷ 1 ∷ []) ∷ []))
    ∷ (five ∷ falls_to_none ∷ falls_to_ab ∷ [], Some ((0 ∷ 0 ∷ 0 ∷ 0 ∷ []) ∷ (1 ∷ 1 ∷ 0 ∷ 0 ∷ []) ∷ (2 ∷ 2 ∷ 0 ∷ 0 ∷ []) ∷ (3 ∷ 3 ∷ 0 ∷ 0 ∷ []) ∷ (4 ∷ 4 ∷ 0 ∷ 0 ∷ []) ∷ []))
    ∷ (three 1 ∷ falls_to_none ∷ three 0 ∷ falls_to 2000 ∷ [], Some ((2000 ∷ 1 ∷ 1 ∷ 1 ∷ []) ∷ [])) ∷ [])

-- two breaks with one fallback; and one that is entered again, after another one, has its copy while that is there, and the
-- new fallback then
abbrev pub FallbacksFillEach : Type 0
FallbacksFillEach = HasValues written (
    (three_of_two 0 ∷ falls_to 2000 ∷ [], Some ((0 ∷ 0 ∷ 0 ∷ 0 ∷ []) ∷ (2000 ∷ 1 ∷ 1 ∷ 1 ∷ []) ∷ (2 ∷ 2 ∷ 2 ∷ 1 ∷ []) ∷ []))
    ∷ (three_of_two 1 ∷ three_of_two 0 ∷ falls_to 2000 ∷ [], Some ((2000 ∷ 1 ∷ 1 ∷ 1 ∷ []) ∷ (2 ∷ 2 ∷ 2 ∷ 1 ∷ []) ∷ (2000 ∷ 3 ∷ 3 ∷ 1 ∷ []) ∷ []))
    ∷ (three_of_two 2 ∷ three_of_two 1 ∷ three_of_two 0 ∷ falls_to 2000 ∷ [], Some ((2 ∷ 2 ∷ 2 ∷ 1 ∷ []) ∷ (2000 ∷ 3 ∷ 3 ∷ 1 ∷ []) ∷ (4 ∷ 4 ∷ 4 ∷ 1 ∷ []) ∷ []))
    ∷ (turns b1_and_b2 ∷ falls_to 2000 ∷ [], Some ((0 ∷ 0 ∷ 0 ∷ 0 ∷ []) ∷ (2000 ∷ 1 ∷ 1 ∷ 1 ∷ []) ∷ (2 ∷ 2 ∷ 2 ∷ 1 ∷ []) ∷ (2000 ∷ 3 ∷ 3 ∷ 1 ∷ []) ∷ (4 ∷ 4 ∷ 4 ∷ 1 ∷ []) ∷ []))
    ∷ (turns b2_and_b1 ∷ falls_to 3000 ∷ turns b1_and_b2 ∷ falls_to 2000 ∷ [], Some ((2 ∷ 2 ∷ 2 ∷ 1 ∷ []) ∷ (2000 ∷ 3 ∷ 3 ∷ 1 ∷ []) ∷ (4 ∷ 4 ∷ 4 ∷ 1 ∷ []) ∷ (2000 ∷ 5 ∷ 5 ∷ 1 ∷ []) ∷ []))
    ∷ (turns b2_and_b1 ∷ falls_to 3000 ∷ turns b2_alone ∷ turns b1_and_b2 ∷ falls_to 2000 ∷ [], Some ((2 ∷ 2 ∷ 2 ∷ 1 ∷ []) ∷ (2000 ∷ 3 ∷ 3 ∷ 1 ∷ []) ∷ (4 ∷ 4 ∷ 4 ∷ 1 ∷ []) ∷ (3000 ∷ 5 ∷ 5 ∷ 1 ∷ []) ∷ [])) ∷ [])

-- the break that was entered last isn't entered again, however long ago that was
abbrev pub LastBreaksAreLeft : Type 0
LastBreaksAreLeft = HasValues written ((
  refreshed (plays false (lasting 10 b1 ∷ []) (at 0 0 ∷ at 1 100 ∷ at 2 1000 ∷ at 3 2000 ∷ at 4 3000 ∷ at 5 4000 ∷ at 6 100 ∷ [])) ∷ falls_to 2000 ∷ [],
  Some ((0 ∷ 0 ∷ 0 ∷ 0 ∷ []) ∷ (2000 ∷ 1 ∷ 1 ∷ 1 ∷ []) ∷ (2 ∷ 2 ∷ 2 ∷ 1 ∷ []) ∷ (3 ∷ 3 ∷ 2 ∷ 0 ∷ []) ∷ (4 ∷ 4 ∷ 2 ∷ 0 ∷ []) ∷ (5 ∷ 5 ∷ 2 ∷ 0 ∷ []) ∷ (6 ∷ 6 ∷ 2 ∷ 0 ∷ []) ∷ []),
) ∷ [])

-- a pod of the break's own comes first, also if it doesn't fit
abbrev pub OwnPodsComeFirst : Type 0
OwnPodsComeFirst = HasValues written (
    (five ∷ falls_to 2000 ∷ decide_b1 ∷ [], Some ((0 ∷ 0 ∷ 0 ∷ 0 ∷ []) ∷ (1000 ∷ 1 ∷ 1 ∷ 1 ∷ []) ∷ (1001 ∷ 2 ∷ 1 ∷ 0 ∷ []) ∷ (4 ∷ 3 ∷ 2 ∷ 1 ∷ []) ∷ []))
    ∷ (five ∷ falls_to 2000 ∷ withdraw_b1 ∷ decide_b1 ∷ [], Some ((0 ∷ 0 ∷ 0 ∷ 0 ∷ []) ∷ (2000 ∷ 1 ∷ 1 ∷ 1 ∷ []) ∷ (4 ∷ 2 ∷ 2 ∷ 1 ∷ []) ∷ []))
    ∷ (five ∷ decide_long ∷ falls_to 2000 ∷ [], Some ((0 ∷ 0 ∷ 0 ∷ 0 ∷ []) ∷ (1 ∷ 1 ∷ 0 ∷ 0 ∷ []) ∷ (2 ∷ 2 ∷ 0 ∷ 0 ∷ []) ∷ (3 ∷ 3 ∷ 0 ∷ 0 ∷ []) ∷ (4 ∷ 4 ∷ 0 ∷ 0 ∷ []) ∷ [])) ∷ [])

-- docs/DECISION_FILES.md: a break that was entered keeps its copy of the fallback (J9), until it is used no more (J11)
abbrev pub UsedPodsStand : Type 0
UsedPodsStand = HasValues (λ (it : List Event × Decisions). outcome it.0 it.1) (
    ((five ∷ falls_to 3000 ∷ five ∷ falls_to 2000 ∷ [], Breaks ((codes "b1", ab) ∷ [])), refused_as Used)
    ∷ ((three 1 ∷ falls_to_none ∷ three 0 ∷ falls_to 2000 ∷ [], Withdraw (codes "b1")), refused_as Used)
    ∷ ((turns b2_alone ∷ turns b1_and_b2 ∷ falls_to 2000 ∷ [], Withdraw (codes "b1")), refused_as Unknown) ∷ [])
