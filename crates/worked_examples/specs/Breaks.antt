-- What date ranges say of breaks, which breaks are known, and which one a segment enters.
use Rattle.std.specs.Prelude.{ℕ, Bool, true, false, ℤ, pos, List, [], ◌∷◌, map, codes, Option, Some, None}
use Rattle.playlist_model.specs.declared.DateRange.{DateRange}
use Rattle.pod_store.specs.Pods.{Pod}
use Rattle.pod_store.specs.Store.{Store}
use Rattle.break_finder.specs.declared.described.Described.{Described}
use Rattle.break_finder.specs.declared.signal.Signal.TheVariants.{Nothing, Leaves, Returns}
use Rattle.break_finder.specs.declared.why.Why.{Why}
use Rattle.break_finder.specs.declared.why.Why.TheVariants.{Filled, NotKnown, NoStart, NotSignalled, NotDecided, DoesNotFit, Waiting}
use Rattle.break_finder.specs.Signals.{break_signal_of_text, break_ticks_nanos}
use Rattle.break_finder.specs.Breaks.{Break, End, at, closed, described_break_and_tag, break_end_of, is_before_break_end, is_not_past_break_end, is_near_break_start, is_signalled}
use Rattle.break_finder.specs.Known.{Accepted, known}
use Rattle.break_finder.specs.Entering.{EntryLimits, entered, is_inside, why}
use Rattle.pod_store.specs.Marks.{mark_in}
use Rattle.worked_examples.specs.Pods.{long}
use Rattle.worked_examples.specs.Tables.{HasValues}

-- SCTE 35, 9.7.3: an uncancelled splice_insert leaves the network or returns to it; no other command signals a break
abbrev pub SignalsAreRead : Type 0
SignalsAreRead = HasValues break_signal_of_text (
    (codes "0xFC302000000000000000FFF00F05000000017FFFFE002932E000010000000000000000", Leaves (Some 2700000))
    ∷ (codes "0xFC30280000000000030412301405480000017F6FFF000000057E00015F90010203040002AABBCC01020304", Returns (Some 90000))
    ∷ (codes "0xFC302400000000000000FFF01305000000027F8F0207FE00000009087F00000000000000000000", Leaves None)
    ∷ (codes "0xFC301B00000000000000FFF00A05000000017F5F00010000000000000000", Returns None)
    ∷ (codes "0xFC301600000000000000FFF0050500000002FF000000000000", Nothing)
    ∷ (codes "0xFC301600000000000000FFF00506FE00000009000000000000", Nothing)
    ∷ (codes "0xFC301100000000000000FFF00000000000000000", Nothing)
    ∷ (codes "0xFC301500000000000000FFF004FF43554549000000000000", Nothing)
    ∷ (codes "0xFC301200000000000000FFFFFF067F000000000000", Nothing)
    ∷ (codes "0xFC302000000000000000FFF00F05000000017FFFFE002932E0000100000000000000", Nothing)
    ∷ (codes "0xF", Nothing) ∷ [])

-- 9.8.2: ticks of 90 kHz
abbrev pub TicksAreCounted : Type 0
TicksAreCounted = HasValues break_ticks_nanos ((0, 0) ∷ (1, 11111) ∷ (90000, 1000000000) ∷ (2700000, 30000000000) ∷ (8589934591, 95443717677777) ∷ [])

abbrev pub nothing_said : Described
nothing_said = record { start = None; end = None; duration = None; planned_duration = None; scte35_out = None; scte35_in = None }

abbrev pub said_first : Described
said_first = record { start = Some (pos 1); end = Some (pos 2); duration = Some 3; planned_duration = Some 4; scte35_out = Some (Leaves None); scte35_in = Some (Returns None) }

abbrev pub later_tag : DateRange
later_tag = record { id = codes "b"; start = Some (pos 11); end = Some (pos 12); duration = Some 13; planned_duration = Some 14; scte35_out = Some (codes "0xF"); scte35_in = Some (codes "0xFC301B00000000000000FFF00A05000000017F5F00010000000000000000"); attributes = [] }

-- RFC 8216, 4.3.2.7: tags of one ID are of one date range, whose attributes say the same; the first value of each one stands
abbrev pub FirstValuesStand : Type 0
FirstValuesStand = HasValues (λ said. described_break_and_tag said later_tag) (
    (said_first, said_first)
    ∷ (nothing_said, record { start = Some (pos 11); end = Some (pos 12); duration = Some 13; planned_duration = Some 14; scte35_out = Some Nothing; scte35_in = Some (Returns None) })
    ∷ (record said_first { scte35_in = Some (Leaves None) }, record said_first { scte35_in = Some (Leaves None) })
    ∷ (record nothing_said { duration = Some 3 }, record { start = Some (pos 11); end = Some (pos 12); duration = Some 3; planned_duration = Some 14; scte35_out = Some Nothing; scte35_in = Some (Returns None) }) ∷ [])

abbrev pub ends : Described → Option End
ends said = break_end_of said 50

abbrev pub starting : Described
starting = record nothing_said { start = Some (pos 100); scte35_out = Some (Leaves None) }

-- docs/CONFORMANCE.md: the first that is known of END-DATE, START-DATE with DURATION, a valid SCTE35-IN, START-DATE with
-- PLANNED-DURATION, with the section's duration, and with that of the pod, here 50 ns
abbrev pub BreaksEnd : Type 0
BreaksEnd = HasValues ends (
    (starting, Some (at (pos 150)))
    ∷ (record starting { scte35_out = Some (Leaves (Some 90000)) }, Some (at (pos 1000000100)))
    ∷ (record starting { scte35_out = Some (Leaves (Some 90000)); planned_duration = Some 30 }, Some (at (pos 130)))
    ∷ (record starting { scte35_out = Some (Leaves (Some 90000)); scte35_in = Some (Returns None) }, Some closed)
    ∷ (record starting { scte35_out = Some (Leaves (Some 90000)); duration = Some 20 }, Some (at (pos 120)))
    ∷ (record starting { scte35_out = Some (Leaves (Some 90000)); end = Some (pos 110) }, Some (at (pos 110)))
    ∷ (record starting { planned_duration = Some 30; scte35_in = Some (Returns None) }, Some closed)
    ∷ (record starting { planned_duration = Some 30; duration = Some 20 }, Some (at (pos 120)))
    ∷ (record starting { planned_duration = Some 30; end = Some (pos 110) }, Some (at (pos 110)))
    ∷ (record starting { scte35_in = Some (Returns None); end = Some (pos 110) }, Some (at (pos 110)))
    ∷ (record starting { start = None }, None)
    ∷ (record starting { start = None; planned_duration = Some 30; scte35_out = Some (Leaves (Some 90000)) }, None)
    ∷ (record starting { planned_duration = Some 30; scte35_in = Some (Leaves None) }, Some (at (pos 130)))
    ∷ (record starting { planned_duration = Some 30; scte35_in = Some Nothing }, Some (at (pos 130)))
    ∷ (record starting { scte35_in = Some (Returns None); duration = Some 20 }, Some (at (pos 120)))
    ∷ (record starting { duration = Some 20; end = Some (pos 110) }, Some (at (pos 110)))
    ∷ (record starting { start = None; duration = Some 20 }, None)
    ∷ (record starting { start = None; end = Some (pos 110) }, Some (at (pos 110)))
    ∷ (record starting { start = None; scte35_in = Some (Returns None) }, Some closed)
    ∷ (record starting { scte35_out = Some (Returns (Some 90000)) }, Some (at (pos 1000000100))) ∷ [])

-- a break is signalled if it has a start and an SCTE35-OUT that leaves the network
abbrev pub BreaksAreSignalled : Type 0
BreaksAreSignalled = HasValues is_signalled (
    (starting, true)
    ∷ (record starting { start = None }, false)
    ∷ (record starting { scte35_out = None }, false)
    ∷ (record starting { scte35_out = Some Nothing }, false)
    ∷ (record starting { scte35_out = Some (Returns None) }, false) ∷ [])

-- the tolerance at a start, here 10 ns: on both sides, and as far as it goes
abbrev pub StartsAreNear : Type 0
StartsAreNear = HasValues (λ instant. is_near_break_start instant 10 (Some (pos 100))) (
    (pos 89, false) ∷ (pos 90, true) ∷ (pos 100, true) ∷ (pos 110, true) ∷ (pos 111, false) ∷ [])

-- nothing is near a start that isn't stated
abbrev pub StartsAreStated : Type 0
StartsAreStated = HasValues (is_near_break_start (pos 0) 10) ((Some (pos 0), true) ∷ (None, false) ∷ [])

-- and at an end: a segment that begins less than the tolerance before it is past it
abbrev pub EndsAreNear : Type 0
EndsAreNear = HasValues (λ instant. is_before_break_end instant 10 (Some (at (pos 100)))) ((pos 89, true) ∷ (pos 90, false) ∷ (pos 100, false) ∷ [])

-- at 89, with a tolerance of 10: whether a segment is inside, and whether it can enter
abbrev pub before_end_and_not_past : Option End → Bool × Bool
before_end_and_not_past end = (is_before_break_end (pos 89) 10 end, is_not_past_break_end (pos 89) 10 end)

-- no segment is inside a break that is closed, or has no end; but such a break can be entered
abbrev pub ClosedBreaksCanBeEntered : Type 0
ClosedBreaksCanBeEntered = HasValues before_end_and_not_past (
    (Some closed, (false, true)) ∷ (None, (false, true)) ∷ (Some (at (pos 100)), (true, true)) ∷ (Some (at (pos 99)), (false, false)) ∷ [])

abbrev pub tag : List ℕ → DateRange
tag id = record { id = id; start = Some (pos 100); end = None; duration = None; planned_duration = None; scte35_out = Some (codes "0xFC302000000000000000FFF00F05000000017FFFFE002932E000010000000000000000"); scte35_in = None; attributes = [] }

-- an accepted refresh with these tags, if this break marks the newest segment of the one before
abbrev pub accepted : List DateRange → Option (List ℕ) → Accepted
accepted tags carried = record {
  playlist = record { version = 3; target_duration = 10; playlist_type = None; independent_segments = false; end_list = false; date_ranges = tags; segments = [] };
  carried = carried;
}

-- of a break its ID and its DURATION
abbrev pub briefly : Break → List ℕ × Option ℕ
briefly b = (b.id, b.said.duration)

abbrev pub known_briefly : List Accepted → List (List ℕ × Option ℕ)
known_briefly refreshes = map briefly (known refreshes)

abbrev pub lasting : ℕ → DateRange → DateRange
lasting nanos one = record one { duration = Some nanos }

abbrev pub a_b_and_c : Accepted
a_b_and_c = accepted (tag (codes "a") ∷ lasting 7 (tag (codes "b")) ∷ tag (codes "c") ∷ []) None

-- four refreshes, of which the oldest lists c and b, the later ones a, b and c
abbrev pub four_refreshes : List Accepted
four_refreshes =
    a_b_and_c
    ∷ a_b_and_c
    ∷ a_b_and_c
    ∷ accepted (tag (codes "c") ∷ lasting 5 (tag (codes "b")) ∷ []) None ∷ []

-- an ID is known while its tag stands in each refresh, or its break marks the newest segment; the first tag counts. A break
-- that has gone and comes back is a new one. The newest refresh stands first
abbrev pub BreaksAreKnown : Type 0
BreaksAreKnown = HasValues known_briefly (
    ([], [])
    ∷ (accepted (tag (codes "a") ∷ lasting 5 (tag (codes "b")) ∷ lasting 6 (tag (codes "b")) ∷ []) None ∷ [], (codes "a", None) ∷ (codes "b", Some 5) ∷ [])
    ∷ (accepted (tag (codes "b") ∷ tag (codes "a") ∷ []) None ∷ accepted (tag (codes "a") ∷ []) None ∷ [], (codes "a", None) ∷ (codes "b", None) ∷ [])
    ∷ (accepted (lasting 7 (tag (codes "a")) ∷ []) None ∷ accepted (lasting 5 (tag (codes "a")) ∷ []) None ∷ [], (codes "a", Some 5) ∷ [])
    ∷ (accepted [] None ∷ accepted (lasting 5 (tag (codes "a")) ∷ []) None ∷ [], [])
    ∷ (accepted [] (Some (codes "a")) ∷ accepted (lasting 5 (tag (codes "a")) ∷ []) None ∷ [], (codes "a", Some 5) ∷ [])
    ∷ (accepted (lasting 7 (tag (codes "a")) ∷ []) None ∷ accepted [] None ∷ accepted (lasting 5 (tag (codes "a")) ∷ []) None ∷ [], (codes "a", Some 7) ∷ [])
    ∷ (a_b_and_c ∷ four_refreshes, (codes "c", None) ∷ (codes "b", Some 5) ∷ (codes "a", None) ∷ [])
    ∷ (accepted (tag (codes "a") ∷ tag (codes "b") ∷ tag (codes "c") ∷ lasting 8 (tag (codes "d")) ∷ []) None ∷ four_refreshes, (codes "c", None) ∷ (codes "b", Some 5) ∷ (codes "a", None) ∷ (codes "d", Some 8) ∷ [])
    ∷ (accepted (lasting 7 (tag (long 98)) ∷ lasting 8 (tag (long 99)) ∷ []) None ∷ accepted (lasting 6 (tag (long 99)) ∷ lasting 5 (tag (long 98)) ∷ []) None ∷ [], (long 99, Some 6) ∷ (long 98, Some 5) ∷ [])
    ∷ (accepted [] (Some (long 98)) ∷ accepted (lasting 5 (tag (long 98)) ∷ lasting 6 (tag (long 99)) ∷ []) None ∷ [], (long 98, Some 5) ∷ [])
    ∷ (accepted (tag (codes "a") ∷ tag (codes "a") ∷ tag (codes "a") ∷ tag (codes "a") ∷ lasting 5 (tag (codes "a")) ∷ []) None ∷ [], (codes "a", Some 5) ∷ [])
    ∷ (accepted (tag (codes "a") ∷ tag (codes "b") ∷ tag (codes "c") ∷ tag (codes "d") ∷ tag (codes "e") ∷ []) None ∷ [], (codes "a", None) ∷ (codes "b", None) ∷ (codes "c", None) ∷ (codes "d", None) ∷ (codes "e", None) ∷ []) ∷ [])

-- one ad of one segment that lasts 8 s
abbrev pub pod : Pod
pod = record { ads = record { init_section = None; keys = []; segments = record { uri = codes "http://a/b"; byte_range = None; duration = 8000000000 } ∷ [] } ∷ [] }

-- the same with an initialisation section
abbrev pub pod_with_init_section : Pod
pod_with_init_section = record { ads = record { init_section = Some (record { uri = codes "http://a/i"; byte_range = None; keys = [] }); keys = []; segments = record { uri = codes "http://a/b"; byte_range = None; duration = 8000000000 } ∷ [] } ∷ [] }

abbrev pub decided_b : Store
decided_b = record { entries = record { id = codes "b"; pod = pod; used = false; copied = false } ∷ []; fallback = None }

abbrev pub limits : ℕ → Bool → Option (List ℕ) → EntryLimits
limits target with_init_sections last = record { tolerance = 10; target_duration = target; with_init_sections = with_init_sections; last = last }

abbrev pub break_named : List ℕ → Break
break_named id = record { id = id; said = starting }

abbrev pub break : Described → Break
break said = record { id = codes "b"; said = said }

-- four breaks without a pod, and one whose ID differs in its last byte from that of the one before
abbrev pub five_breaks : List Break
five_breaks =
    break_named (codes "c") ∷ break_named (codes "d") ∷ break_named (codes "e") ∷ break_named (long 99) ∷ break_named (long 98) ∷ []

abbrev pub decided_long : Store
decided_long = record { entries = record { id = long 98; pod = pod; used = false; copied = false } ∷ []; fallback = None }

abbrev pub Entrance : Type 0
Entrance = EntryLimits × Store × List Break × Option ℤ

abbrev pub enters : Entrance → Option (List ℕ)
enters it = entered it.0 it.1 it.2 it.3

-- docs/CONFORMANCE.md: a segment enters the first known break that is signalled, has a pod that fits, isn't past, isn't the one
-- that was entered last, and near whose start it begins
abbrev pub BreaksAreEntered : Type 0
BreaksAreEntered = HasValues enters (
    ((limits 8 false None, decided_b, break starting ∷ [], Some (pos 110)), Some (codes "b"))
    ∷ ((limits 8 false (Some (codes "a")), decided_b, break starting ∷ [], Some (pos 90)), Some (codes "b"))
    ∷ ((limits 8 false (Some (codes "b")), decided_b, break starting ∷ [], Some (pos 100)), None)
    ∷ ((limits 7 false None, decided_b, break starting ∷ [], Some (pos 100)), None)
    ∷ ((limits 8 true None, decided_b, break starting ∷ [], Some (pos 100)), None)
    ∷ ((limits 8 false None, decided_b, break starting ∷ [], Some (pos 111)), None)
    ∷ ((limits 8 false None, decided_b, break starting ∷ [], None), None)
    ∷ ((limits 8 false None, record { entries = []; fallback = None }, break starting ∷ [], Some (pos 100)), None)
    ∷ ((limits 8 false None, record { entries = []; fallback = Some pod }, break starting ∷ [], Some (pos 100)), Some (codes "b"))
    ∷ ((limits 8 false None, decided_b, break (record starting { scte35_out = None }) ∷ [], Some (pos 100)), None)
    ∷ ((limits 8 false None, decided_b, break (record starting { end = Some (pos 105) }) ∷ [], Some (pos 100)), None)
    ∷ ((limits 8 false None, record { entries = []; fallback = Some pod }, record { id = codes "c"; said = starting } ∷ break starting ∷ [], Some (pos 100)), Some (codes "c"))
    ∷ ((limits 8 true None, record decided_b { fallback = Some pod_with_init_section }, break starting ∷ [], Some (pos 100)), None)
    ∷ ((limits 8 true None, record { entries = []; fallback = Some pod_with_init_section }, break starting ∷ [], Some (pos 100)), Some (codes "b"))
    ∷ ((limits 8 false None, decided_long, five_breaks, Some (pos 100)), Some (long 98))
    ∷ ((limits 8 false (Some (long 98)), decided_long, five_breaks, Some (pos 100)), None)
    ∷ ((limits 8 false (Some (long 99)), decided_long, five_breaks, Some (pos 100)), Some (long 98)) ∷ [])

-- the mark of a break with a long ID
abbrev pub MarksAreMade : Type 0
MarksAreMade = HasValues (mark_in decided_long) (
    (None, None) ∷ (Some (long 98), Some (record { id = long 98; pod = pod })) ∷ (Some (long 99), None) ∷ [])

-- a segment at 100 is inside the break of an ID, if its end allows it
abbrev pub BreaksGoOn : Type 0
BreaksGoOn = HasValues (λ (breaks : List Break). is_inside breaks (codes "b") (Some (pos 100)) 10 pod) (
    (break starting ∷ [], true)
    ∷ (break (record starting { duration = Some 10 }) ∷ [], false)
    ∷ (break (record starting { duration = Some 11 }) ∷ [], true)
    ∷ (break (record starting { scte35_in = Some (Returns None) }) ∷ [], false)
    ∷ ([], false) ∷ [])

-- the same of other breaks, and of a segment without an instant
abbrev pub BreaksOfOthersGoOn : Type 0
BreaksOfOthersGoOn = HasValues (λ (it : List ℕ × Option ℤ). is_inside five_breaks it.0 it.1 10 pod) (
    ((long 98, Some (pos 100)), true)
    ∷ ((codes "d", Some (pos 100)), true)
    ∷ ((long 100, Some (pos 100)), false)
    ∷ ((long 98, None), false) ∷ [])

abbrev pub Question : Type 0
Question = List Break × ℕ × Bool × Store × Bool

abbrev pub reason : Question → Why
reason it = why it.0 (codes "b") it.1 it.2 it.3 it.4

-- docs/OPERATING.md: the first word that holds of Filled, NotKnown, NoStart, NotSignalled, NotDecided, DoesNotFit, Waiting
abbrev pub ReasonsAreTold : Type 0
ReasonsAreTold = HasValues reason (
    (([], 8, false, decided_b, true), Filled)
    ∷ (([], 8, false, decided_b, false), NotKnown)
    ∷ ((break (record nothing_said { duration = Some 5 }) ∷ [], 8, false, record { entries = []; fallback = None }, false), NoStart)
    ∷ ((break (record starting { scte35_out = Some (Returns None) }) ∷ [], 8, false, record { entries = []; fallback = None }, false), NotSignalled)
    ∷ ((break starting ∷ [], 8, false, record { entries = []; fallback = None }, false), NotDecided)
    ∷ ((break starting ∷ [], 7, false, decided_b, false), DoesNotFit)
    ∷ ((break starting ∷ [], 8, true, decided_b, false), DoesNotFit)
    ∷ ((break starting ∷ [], 8, true, record decided_b { fallback = Some pod_with_init_section }, false), DoesNotFit)
    ∷ ((break starting ∷ [], 8, true, record { entries = []; fallback = Some pod_with_init_section }, false), Waiting)
    ∷ ((break starting ∷ [], 8, false, decided_b, false), Waiting) ∷ [])

-- the same of breaks with long IDs
abbrev pub ReasonsOfOthersAreTold : Type 0
ReasonsOfOthersAreTold = HasValues (λ (id : List ℕ). why five_breaks id 8 false decided_long false) (
    (long 98, Waiting) ∷ (long 99, NotDecided) ∷ (long 100, NotKnown) ∷ (codes "d", NotDecided) ∷ [])
