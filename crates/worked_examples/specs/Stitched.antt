-- The stitched list: pods in place of runs, numbers, and the pace of a run.
use Rattle.std.specs.Prelude.{ℕ, Bool, true, false, List, [], ◌∷◌, ◌++◌, map, reverse, length, slice_index, codes, pos, Option, Some, None}
use Rattle.playlist_model.specs.Segments.{Segment}
use Rattle.playlist_model.specs.declared.Key.{Key}
use Rattle.playlist_model.specs.declared.InitSection.{InitSection}
use Rattle.playlist_model.specs.declared.KeyTag.{KeyTag}
use Rattle.playlist_model.specs.declared.KeyTag.TheVariants.{End, Set}
use Rattle.pod_store.specs.Marks.{Mark, Marked, mark_in}
use Rattle.stitcher.specs.Stitched.{Piece, Item, pod_pieces, can_be_numbered}
use Rattle.stitcher.specs.Paced.{due, due_list, rest_pieces}
use Rattle.stitcher.specs.Written.{written_item}
use Rattle.stitcher.specs.Making.{is_same_stitched_run}
use Rattle.stitcher.specs.KeyTags.{transition}
use Rattle.worked_examples.specs.Pods as pods
use Rattle.worked_examples.specs.Tables.{HasValues}

-- ---- what a pod is

abbrev pub two_ads : Mark
two_ads = record { id = codes "b"; pod = pods.pod (record (pods.ad (pods.segment 8 ∷ pods.segment 9 ∷ [])) { init_section = Some (pods.init_section []) } ∷ pods.clear (record (pods.segment 7) { byte_range = None } ∷ []) ∷ []) }

-- a segment of the first ad, and that of the second
abbrev pub of_first_ad : Bool → ℕ → Piece
of_first_ad first nanos = record {
  segment = record {
    media_sequence = 0;
    discontinuity_sequence = 0;
    discontinuities = 0;
    uri = codes "http://a/s";
    byte_range = Some (record { length = 100; offset = 5 });
    keys = pods.key (Some 31) ∷ [];
    init_section = Some (record { uri = codes "http://a/i"; byte_range = Some (record { length = 9; offset = 1 }); keys = pods.key (Some 31) ∷ [] });
    duration = nanos;
    title = [];
    program_date_time = None;
  };
  instant = None;
  mark = Some two_ads;
  first_of_ad = first;
}

abbrev pub of_second_ad : Piece
of_second_ad = record {
  segment = record { media_sequence = 0; discontinuity_sequence = 0; discontinuities = 0; uri = codes "http://a/s"; byte_range = None; keys = []; init_section = None; duration = 7; title = []; program_date_time = None };
  instant = None;
  mark = Some two_ads;
  first_of_ad = true;
}

-- docs/DECISION_FILES.md: the segments of a pod stand in their order, each with its own byte range and its ad's keys and initialisation section,
-- which has the ad's keys too (RFC 8216, 4.3.2.5)
abbrev pub PodsStandInOrder : Type 0
PodsStandInOrder = HasValues pod_pieces ((two_ads, of_first_ad true 8 ∷ of_first_ad false 9 ∷ of_second_ad ∷ []) ∷ [])

-- a break of this ID with a pod of clear ads, each segment of which has this URI and lasts so long
abbrev pub break : List ℕ → List (List (ℕ × ℕ)) → Mark
break id ads = record { id = id; pod = record { ads = map (λ (segments : List (ℕ × ℕ)). record { init_section = None; keys = []; segments = map (λ (one : ℕ × ℕ). record { uri = one.0 ∷ []; byte_range = None; duration = one.1 }) segments }) ads } }

-- a pod of five ads, the first of which has five segments
abbrev pub large : Mark
large = break (codes "b") (((1000, 10) ∷ (1001, 10) ∷ (1002, 10) ∷ (1003, 10) ∷ (1004, 10) ∷ []) ∷ ((1005, 10) ∷ []) ∷ ((1006, 10) ∷ []) ∷ ((1007, 10) ∷ []) ∷ ((1008, 10) ∷ []) ∷ [])

abbrev pub first_uris : List Piece → List ℕ
first_uris pieces = map (λ (p : Piece). slice_index p.segment.uri 0) pieces

abbrev pub LargePodsStand : Type 0
LargePodsStand = HasValues (λ (place : ℕ). first_uris (rest_pieces (Some (record { mark = large; place = place })))) (
    (0, 1008 ∷ 1007 ∷ 1006 ∷ 1005 ∷ 1004 ∷ 1003 ∷ 1002 ∷ 1001 ∷ 1000 ∷ []) ∷ (2, 1008 ∷ 1007 ∷ 1006 ∷ 1005 ∷ 1004 ∷ 1003 ∷ 1002 ∷ []) ∷ (9, []) ∷ [])

abbrev pub of_format : List ℕ → ℕ → Key
of_format format iv = record { format = format; method = codes "AES-128"; uri = codes "a:k"; iv = Some iv; other_attributes = [] }

-- keys of four formats
abbrev pub four_keys : List Key
four_keys = of_format (codes "f") 1 ∷ of_format (codes "g") 1 ∷ of_format (codes "h") 1 ∷ of_format (codes "i") 1 ∷ []

abbrev pub under_keys : List Key → Mark
under_keys keys = record { id = codes "b"; pod = pods.pod (record (pods.clear (pods.segment 1 ∷ [])) { init_section = Some (pods.init_section []); keys = keys } ∷ []) }

abbrev pub keys_of_piece : Piece → List Key × Option InitSection
keys_of_piece p = (p.segment.keys, p.segment.init_section)

-- a segment of an ad has all of its keys, and its initialisation section has them
abbrev pub AdsHaveTheirKeys : Type 0
AdsHaveTheirKeys = HasValues (λ (keys : List Key). map keys_of_piece (pod_pieces (under_keys keys))) (
    ([], ([], Some (pods.init_section [])) ∷ []) ∷ (four_keys, (four_keys, Some (pods.init_section four_keys)) ∷ []) ∷ [])

-- the rest of a pod from a place on, the newest first
abbrev pub RestsAreLeft : Type 0
RestsAreLeft = HasValues (λ (place : ℕ). rest_pieces (Some (record { mark = two_ads; place = place }))) (
    (0, of_second_ad ∷ of_first_ad false 9 ∷ of_first_ad true 8 ∷ []) ∷ (1, of_second_ad ∷ of_first_ad false 9 ∷ []) ∷ (3, []) ∷ [])

-- ---- what stands in the list

-- segment n of the origin, which has the URI n and lasts 10 ns, with a discontinuity number and steps
abbrev pub stepped : ℕ → ℕ → ℕ → Segment
stepped n discontinuity steps = record { media_sequence = n; discontinuity_sequence = discontinuity; discontinuities = steps; uri = n ∷ []; byte_range = None; keys = []; init_section = None; duration = 10; title = []; program_date_time = None }

abbrev pub unmarked : Segment → Marked
unmarked s = record { segment = s; instant = None; mark = None }

abbrev pub marked : Mark → Segment → Marked
marked mark s = record { segment = s; instant = None; mark = Some mark }

abbrev pub b : Mark
b = break (codes "b") (((1000, 10) ∷ (1001, 10) ∷ []) ∷ [])

abbrev pub c : Mark
c = break (codes "c") (((2000, 10) ∷ []) ∷ ((2001, 10) ∷ []) ∷ [])

-- a segment goes on the run of the one before it if both have a mark, of one break
abbrev pub RunsGoOn : Type 0
RunsGoOn = HasValues (λ (marks : Option (List ℕ) × Option (List ℕ)). is_same_stitched_run marks.0 marks.1) (
    ((Some (codes "b"), Some (codes "b")), true)
    ∷ ((Some (codes "b"), Some (codes "c")), false)
    ∷ ((Some (codes "break-100"), Some (codes "break-101")), false)
    ∷ ((Some (codes "b"), None), false)
    ∷ ((None, Some (codes "b")), false)
    ∷ ((None, None), false) ∷ [])

-- an item in short: URI, media number, discontinuity number, steps
abbrev pub brief : Item → List ℕ
brief item = item.piece.segment.uri ++ item.numbers.media_sequence ∷ item.numbers.discontinuity_sequence ∷ item.numbers.discontinuities ∷ []

-- the list of a history, the oldest item first; whether the playlist has ended
abbrev pub listed : Bool × List Marked → List (List ℕ)
listed it = map brief (reverse (due_list it.0 it.1))

-- four segments of the origin, and a run of five with a large pod
abbrev pub large_run : List Marked
large_run =
    marked large (stepped 8 0 0) ∷ marked large (stepped 7 0 0) ∷ marked large (stepped 6 0 0) ∷ marked large (stepped 5 0 0) ∷ marked large (stepped 4 0 0)
    ∷ unmarked (stepped 3 0 0) ∷ unmarked (stepped 2 0 0) ∷ unmarked (stepped 1 0 0) ∷ unmarked (stepped 0 0 0) ∷ []

-- segment n with a mark of the same break, and another pod
abbrev pub other : ℕ → Marked
other n = marked (break (codes "b") (((3000, 10) ∷ []) ∷ [])) (stepped n 0 0)

-- a run has the pod that its first segment has. Each run is replaced by its pod, each other segment stands itself; media numbers rise by one (RFC 8216, 4.3.3.2); one
-- discontinuity stands before each ad, and one where the origin comes back; else the origin's own (4.3.3.3). The newest
-- segment of a history stands first
abbrev pub RunsAreReplaced : Type 0
RunsAreReplaced = HasValues listed (
    ((false, []), [])
    ∷ (
      (false, unmarked (stepped 2 0 0) ∷ marked b (stepped 1 0 0) ∷ unmarked (stepped 0 0 0) ∷ []),
      (0 ∷ 0 ∷ 0 ∷ 0 ∷ []) ∷ (1000 ∷ 1 ∷ 1 ∷ 1 ∷ []) ∷ (1001 ∷ 2 ∷ 1 ∷ 0 ∷ []) ∷ (2 ∷ 3 ∷ 2 ∷ 1 ∷ []) ∷ [],
    )
    ∷ (
      (false, unmarked (stepped 9 4 0) ∷ marked b (stepped 8 4 0) ∷ marked b (stepped 7 4 0) ∷ []),
      (1000 ∷ 7 ∷ 5 ∷ 1 ∷ []) ∷ (1001 ∷ 8 ∷ 5 ∷ 0 ∷ []) ∷ (9 ∷ 9 ∷ 6 ∷ 1 ∷ []) ∷ [],
    )
    ∷ (
      (false, unmarked (stepped 3 0 0) ∷ marked c (stepped 2 0 0) ∷ marked b (stepped 1 0 0) ∷ []),
      (1000 ∷ 1 ∷ 1 ∷ 1 ∷ []) ∷ (1001 ∷ 2 ∷ 1 ∷ 0 ∷ []) ∷ (2000 ∷ 3 ∷ 2 ∷ 1 ∷ []) ∷ (2001 ∷ 4 ∷ 3 ∷ 1 ∷ []) ∷ (3 ∷ 5 ∷ 4 ∷ 1 ∷ []) ∷ [],
    )
    ∷ (
      (false, unmarked (stepped 3 0 0) ∷ marked (record c { id = codes "break-101" }) (stepped 2 0 0) ∷ marked (record b { id = codes "break-100" }) (stepped 1 0 0) ∷ []),
      (1000 ∷ 1 ∷ 1 ∷ 1 ∷ []) ∷ (1001 ∷ 2 ∷ 1 ∷ 0 ∷ []) ∷ (2000 ∷ 3 ∷ 2 ∷ 1 ∷ []) ∷ (2001 ∷ 4 ∷ 3 ∷ 1 ∷ []) ∷ (3 ∷ 5 ∷ 4 ∷ 1 ∷ []) ∷ [],
    )
    ∷ (
      (false, unmarked (stepped 2 7 0) ∷ unmarked (stepped 1 7 2) ∷ unmarked (stepped 0 5 2) ∷ []),
      (0 ∷ 0 ∷ 5 ∷ 2 ∷ []) ∷ (1 ∷ 1 ∷ 7 ∷ 2 ∷ []) ∷ (2 ∷ 2 ∷ 7 ∷ 0 ∷ []) ∷ [],
    )
    ∷ (
      (false, unmarked (stepped 3 9 0) ∷ unmarked (stepped 2 9 3) ∷ marked b (stepped 1 6 1) ∷ unmarked (stepped 0 5 2) ∷ []),
      (0 ∷ 0 ∷ 5 ∷ 2 ∷ []) ∷ (1000 ∷ 1 ∷ 6 ∷ 1 ∷ []) ∷ (1001 ∷ 2 ∷ 6 ∷ 0 ∷ []) ∷ (2 ∷ 3 ∷ 7 ∷ 1 ∷ []) ∷ (3 ∷ 4 ∷ 7 ∷ 0 ∷ []) ∷ [],
    )
    ∷ (
      (false, unmarked (stepped 1 6 1) ∷ marked b (stepped 0 5 2) ∷ []),
      (1000 ∷ 0 ∷ 6 ∷ 1 ∷ []) ∷ (1001 ∷ 1 ∷ 6 ∷ 0 ∷ []) ∷ (1 ∷ 2 ∷ 7 ∷ 1 ∷ []) ∷ [],
    )
    ∷ (
      (false, marked b (stepped 2 0 0) ∷ unmarked (stepped 1 0 0) ∷ marked b (stepped 0 0 0) ∷ []),
      (1000 ∷ 0 ∷ 1 ∷ 1 ∷ []) ∷ (1001 ∷ 1 ∷ 1 ∷ 0 ∷ []) ∷ (1 ∷ 2 ∷ 2 ∷ 1 ∷ []) ∷ (1000 ∷ 3 ∷ 3 ∷ 1 ∷ []) ∷ [],
    )
    ∷ (
      (false, unmarked (stepped 12 0 0) ∷ marked c (stepped 11 0 0) ∷ marked c (stepped 10 0 0) ∷ unmarked (stepped 9 0 0) ∷ large_run),
      (0 ∷ 0 ∷ 0 ∷ 0 ∷ []) ∷ (1 ∷ 1 ∷ 0 ∷ 0 ∷ []) ∷ (2 ∷ 2 ∷ 0 ∷ 0 ∷ []) ∷ (3 ∷ 3 ∷ 0 ∷ 0 ∷ [])
          ∷ (1000 ∷ 4 ∷ 1 ∷ 1 ∷ []) ∷ (1001 ∷ 5 ∷ 1 ∷ 0 ∷ []) ∷ (1002 ∷ 6 ∷ 1 ∷ 0 ∷ []) ∷ (1003 ∷ 7 ∷ 1 ∷ 0 ∷ []) ∷ (1004 ∷ 8 ∷ 1 ∷ 0 ∷ [])
          ∷ (1005 ∷ 9 ∷ 2 ∷ 1 ∷ []) ∷ (1006 ∷ 10 ∷ 3 ∷ 1 ∷ []) ∷ (1007 ∷ 11 ∷ 4 ∷ 1 ∷ []) ∷ (1008 ∷ 12 ∷ 5 ∷ 1 ∷ []) ∷ (9 ∷ 13 ∷ 6 ∷ 1 ∷ [])
          ∷ (2000 ∷ 14 ∷ 7 ∷ 1 ∷ []) ∷ (2001 ∷ 15 ∷ 8 ∷ 1 ∷ []) ∷ (12 ∷ 16 ∷ 9 ∷ 1 ∷ []) ∷ [],
    )
    ∷ (
      (false, large_run),
      (0 ∷ 0 ∷ 0 ∷ 0 ∷ []) ∷ (1 ∷ 1 ∷ 0 ∷ 0 ∷ []) ∷ (2 ∷ 2 ∷ 0 ∷ 0 ∷ []) ∷ (3 ∷ 3 ∷ 0 ∷ 0 ∷ [])
          ∷ (1000 ∷ 4 ∷ 1 ∷ 1 ∷ []) ∷ (1001 ∷ 5 ∷ 1 ∷ 0 ∷ []) ∷ (1002 ∷ 6 ∷ 1 ∷ 0 ∷ []) ∷ (1003 ∷ 7 ∷ 1 ∷ 0 ∷ []) ∷ (1004 ∷ 8 ∷ 1 ∷ 0 ∷ []) ∷ [],
    )
    ∷ (
      (false, unmarked (stepped 2 0 0) ∷ other 1 ∷ marked b (stepped 0 0 0) ∷ []),
      (1000 ∷ 0 ∷ 1 ∷ 1 ∷ []) ∷ (1001 ∷ 1 ∷ 1 ∷ 0 ∷ []) ∷ (2 ∷ 2 ∷ 2 ∷ 1 ∷ []) ∷ [],
    )
    ∷ ((false, other 1 ∷ marked b (stepped 0 0 0) ∷ []), (1000 ∷ 0 ∷ 1 ∷ 1 ∷ []) ∷ (1001 ∷ 1 ∷ 1 ∷ 0 ∷ []) ∷ [])
    ∷ (
      (false, other 6 ∷ other 5 ∷ other 4 ∷ other 3 ∷ other 2 ∷ other 1 ∷ marked b (stepped 0 0 0) ∷ []),
      (1000 ∷ 0 ∷ 1 ∷ 1 ∷ []) ∷ (1001 ∷ 1 ∷ 1 ∷ 0 ∷ []) ∷ [],
    )
    ∷ ((false, marked b (stepped 1 0 0) ∷ marked b (stepped 0 0 0) ∷ []), (1000 ∷ 0 ∷ 1 ∷ 1 ∷ []) ∷ (1001 ∷ 1 ∷ 1 ∷ 0 ∷ []) ∷ [])
    ∷ ((false, marked b (stepped 0 0 0) ∷ []), (1000 ∷ 0 ∷ 1 ∷ 1 ∷ []) ∷ [])
    ∷ ((true, marked b (stepped 0 0 0) ∷ []), (1000 ∷ 0 ∷ 1 ∷ 1 ∷ []) ∷ (1001 ∷ 1 ∷ 1 ∷ 0 ∷ []) ∷ []) ∷ [])

-- how many pieces of these durations are due after a run of this length
abbrev pub due_of : ℕ × List ℕ → ℕ
due_of it = length (due it.0 (map (λ (nanos : ℕ). record of_second_ad { segment = record (stepped 0 0 0) { duration = nanos } }) it.1))

-- docs/CONFORMANCE.md: of an open run's pod the fewest segments, one at least, that last as long as the run
abbrev pub PodsKeepPace : Type 0
PodsKeepPace = HasValues due_of (
    ((0, 10 ∷ 20 ∷ 30 ∷ []), 1)
    ∷ ((10, 10 ∷ 20 ∷ 30 ∷ []), 1)
    ∷ ((11, 10 ∷ 20 ∷ 30 ∷ []), 2)
    ∷ ((30, 10 ∷ 20 ∷ 30 ∷ []), 2)
    ∷ ((31, 10 ∷ 20 ∷ 30 ∷ []), 3)
    ∷ ((99, 10 ∷ 20 ∷ 30 ∷ []), 3)
    ∷ ((41, 10 ∷ 10 ∷ 10 ∷ 10 ∷ 10 ∷ 10 ∷ []), 5)
    ∷ ((5, []), 0) ∷ [])

abbrev pub with_numbers : ℕ → ℕ → Item
with_numbers media discontinuity = record { piece = of_second_ad; numbers = record { media_sequence = media; discontinuity_sequence = discontinuity; discontinuities = 1 } }

-- 4.2: a playlist states numbers below 2^64
abbrev pub NumbersFit : Type 0
NumbersFit = HasValues can_be_numbered (
    (with_numbers 18446744073709551615 18446744073709551615, true) ∷ (with_numbers 18446744073709551616 0, false) ∷ (with_numbers 0 18446744073709551616, false) ∷ [])

-- an item is written with its own numbers and instant
abbrev pub ItemsAreWritten : Type 0
ItemsAreWritten = HasValues written_item ((
  record { piece = record { segment = stepped 5 3 0; instant = Some (pos 9); mark = None; first_of_ad = false }; numbers = record { media_sequence = 8; discontinuity_sequence = 6; discontinuities = 1 } },
  record { segment = stepped 5 3 0; media_sequence = 8; discontinuity_sequence = 6; discontinuities = 1; program_date_time = Some (pos 9) },
)
    ∷ (
      record { piece = of_second_ad; numbers = record { media_sequence = 8; discontinuity_sequence = 6; discontinuities = 1 } },
      record { segment = record of_second_ad.segment { media_sequence = 8; discontinuity_sequence = 6; discontinuities = 1 }; media_sequence = 8; discontinuity_sequence = 6; discontinuities = 1; program_date_time = None },
    ) ∷ [])

-- the mark of a break is the break with the pod that it has in the store
abbrev pub MarksAreFound : Type 0
MarksAreFound = HasValues (mark_in (record pods.ab { entries = pods.unused (pods.long 98) 7 ∷ pods.ab.entries; fallback = Some (pods.short 9) })) (
    (None, None)
    ∷ (Some (pods.long 98), Some (record { id = pods.long 98; pod = pods.short 7 }))
    ∷ (Some (codes "a"), Some (record { id = codes "a"; pod = pods.short 1 }))
    ∷ (Some (codes "z"), Some (record { id = codes "z"; pod = pods.short 9 })) ∷ [])

-- ---- key tags

abbrev pub tags : List Key × List Key → List KeyTag
tags it = transition it.0 it.1

-- RFC 8216, 4.3.2.4: a key is in force until another one of its format, or NONE, which ends all
abbrev pub KeysChange : Type 0
KeysChange = HasValues tags (
    (([], []), [])
    ∷ (([], of_format (codes "f") 1 ∷ []), Set (of_format (codes "f") 1) ∷ [])
    ∷ ((of_format (codes "f") 1 ∷ [], of_format (codes "f") 1 ∷ []), [])
    ∷ ((of_format (codes "f") 1 ∷ [], of_format (codes "f") 2 ∷ []), Set (of_format (codes "f") 2) ∷ [])
    ∷ ((of_format (codes "f") 1 ∷ [], of_format (codes "f") 1 ∷ of_format (codes "g") 1 ∷ []), Set (of_format (codes "g") 1) ∷ [])
    ∷ ((of_format (codes "f") 1 ∷ of_format (codes "g") 1 ∷ [], of_format (codes "g") 1 ∷ []), End ∷ Set (of_format (codes "g") 1) ∷ [])
    ∷ ((of_format (codes "f") 1 ∷ [], []), End ∷ [])
    ∷ (([], four_keys), map Set four_keys)
    ∷ ((four_keys ++ of_format (codes "j") 1 ∷ [], four_keys), End ∷ map Set four_keys)
    ∷ ((four_keys, of_format (codes "f") 1 ∷ of_format (codes "g") 1 ∷ of_format (codes "h") 1 ∷ of_format (codes "i") 2 ∷ []), Set (of_format (codes "i") 2) ∷ [])
    ∷ ((four_keys, four_keys ++ of_format (codes "j") 1 ∷ []), Set (of_format (codes "j") 1) ∷ [])
    ∷ (
      (four_keys, of_format (codes "f") 1 ∷ of_format (codes "g") 1 ∷ of_format (codes "h") 1 ∷ []),
      End ∷ Set (of_format (codes "f") 1) ∷ Set (of_format (codes "g") 1) ∷ Set (of_format (codes "h") 1) ∷ [],
    )
    ∷ ((of_format (pods.long 98) 1 ∷ [], of_format (pods.long 98) 2 ∷ []), Set (of_format (pods.long 98) 2) ∷ [])
    ∷ ((of_format (pods.long 98) 1 ∷ [], of_format (pods.long 99) 1 ∷ []), End ∷ Set (of_format (pods.long 99) 1) ∷ []) ∷ [])
