-- Pods, the store of decided breaks, and decision files.
use Rattle.std.specs.Prelude.{ℕ, zero, suc, ◌-◌, ◌^◌, ◌++◌, true, false, List, [], ◌∷◌, replicate, codes, Option, Some, None, Ok, Err}
use Rattle.playlist_model.specs.declared.InitSection.{InitSection}
use Rattle.playlist_model.specs.declared.Key.{Key}
use Rattle.pod_store.specs.declared.Decisions.{Decisions}
use Rattle.pod_store.specs.declared.Decisions.TheVariants.{Breaks, Withdraw, Fallback, NoFallback}
use Rattle.pod_store.specs.declared.fault.DecisionFault.{DecisionFault}
use Rattle.pod_store.specs.declared.fault.DecisionKind.{DecisionKind}
use Rattle.pod_store.specs.declared.fault.DecisionKind.TheVariants as fault
use Rattle.pod_store.specs.FaultTexts.{fault_text}
use Rattle.pod_store.specs.declared.fault.Place.{Place}
use Rattle.spec_words.specs.Outcomes.{◌>>=◌}
use Rattle.pod_store.specs.Outcome.{DecisionOutcome, no_memory}
use Rattle.pod_store.specs.Pods.{PodSegment, Ad, Pod, Decision, is_id, is_uri, is_key_method, is_format, pod_fits, total}
use Rattle.pod_store.specs.Rules.{ads_keep}
use Rattle.pod_store.specs.Store.{Entry, Store, nothing_decided, decided, pod_for, has_fitting_pod, kept_in_use}
use Rattle.decision_files.specs.Decided.{decisions_of, json_of_decision_file, next_ad, segments_said_by_decision_file}
use Rattle.worked_examples.specs.Tables.{HasValues}

-- ---- where a fault is

abbrev pub nowhere : Place
nowhere = record { pod = None; ad = None; segment = None }

abbrev pub in_break : ℕ → Place
in_break pod = record { pod = Some pod; ad = None; segment = None }

abbrev pub in_ad : ℕ → ℕ → Place
in_ad pod ad = record { pod = Some pod; ad = Some ad; segment = None }

abbrev pub in_segment : ℕ → ℕ → ℕ → Place
in_segment pod ad segment = record { pod = Some pod; ad = Some ad; segment = Some segment }

abbrev pub fault_at : Place → DecisionKind → DecisionFault
fault_at place kind = record { kind = kind; place = place }

-- ---- pods

-- 45 times `A`, and a byte more
abbrev pub long : ℕ → List ℕ
long byte = replicate 45 65 ++ byte ∷ []

-- docs/DECISION_FILES.md: an ID has 1 to 255 bytes, and neither a quote nor a control character
abbrev pub IdsAreChecked : Type 0
IdsAreChecked = HasValues is_id (
    (codes "b 1", true)
    ∷ ([], false)
    ∷ (replicate 255 97, true)
    ∷ (replicate 256 97, false)
    ∷ (codes "b\"", false)
    ∷ (7 ∷ [], false)
    ∷ (9 ∷ [], false)
    ∷ (31 ∷ [], false)
    ∷ (32 ∷ [], true)
    ∷ (127 ∷ [], false)
    ∷ (194 ∷ 128 ∷ [], false)
    ∷ (194 ∷ 160 ∷ [], true)
    ∷ (255 ∷ [], false)
    ∷ (long 34, false)
    ∷ (long 7, false)
    ∷ (long 98, true) ∷ [])

-- a URI is absolute, of http or https, and of printable ASCII without spaces and quotes
abbrev pub UrisAreChecked : Type 0
UrisAreChecked = HasValues is_uri (
    (codes "http://a", true)
    ∷ (codes "https://a/~", true)
    ∷ (codes "http://", false)
    ∷ (codes "https://", false)
    ∷ (codes "ftp://a", false)
    ∷ (codes "HTTP://a", false)
    ∷ (codes "a.ts", false)
    ∷ (codes "http://a b", false)
    ∷ (codes "http://a\"", false)
    ∷ (codes "http://" ++ (127 ∷ []), false)
    ∷ (codes "http://!", true)
    ∷ (codes "http://" ++ long 66, true)
    ∷ (codes "http://" ++ long 32, false) ∷ [])

-- RFC 8216, 4.3.2.4: METHOD is an enumerated-string; NONE is no key
abbrev pub MethodsAreChecked : Type 0
MethodsAreChecked = HasValues is_key_method ((codes "AES-128", true) ∷ (codes "NONE", false) ∷ (codes "aes", false) ∷ (codes "aES-128", false) ∷ ([], false) ∷ (long 65, true) ∷ (long 97, false) ∷ (codes "NINE", true) ∷ (codes "BONE", true) ∷ [])

abbrev pub FormatsAreChecked : Type 0
FormatsAreChecked = HasValues is_format ((codes "a b", true) ∷ ([], false) ∷ (codes "a\"", false) ∷ (codes "\"a", false) ∷ (long 65, true) ∷ (long 34, false) ∷ [])

abbrev pub key : Option ℕ → Key
key iv = record { format = codes "f"; method = codes "AES-128"; uri = codes "http://a/k"; iv = iv; other_attributes = [] }

abbrev pub init_section : List Key → InitSection
init_section keys = record { uri = codes "http://a/i"; byte_range = Some (record { length = 9; offset = 1 }); keys = keys }

abbrev pub segment : ℕ → PodSegment
segment nanos = record { uri = codes "http://a/s"; byte_range = Some (record { length = 100; offset = 5 }); duration = nanos }

-- an ad of these, with an initialisation section and a key
abbrev pub ad : List PodSegment → Ad
ad segments = record { init_section = Some (init_section (key (Some 31) ∷ [])); keys = key (Some 31) ∷ []; segments = segments }

-- the same without
abbrev pub clear : List PodSegment → Ad
clear segments = record { init_section = None; keys = []; segments = segments }

abbrev pub pod : List Ad → Pod
pod ads = record { ads = ads }

-- five ads, the last of which has five segments
abbrev pub five_ads_with : PodSegment → List Ad
five_ads_with last =
    clear (segment 100 ∷ []) ∷ clear (segment 100 ∷ []) ∷ clear (segment 100 ∷ []) ∷ clear (segment 100 ∷ []) ∷ clear (segment 20 ∷ segment 20 ∷ segment 20 ∷ segment 20 ∷ last ∷ []) ∷ []

abbrev pub five_ads : List Ad
five_ads = five_ads_with (segment 20)

abbrev pub PodsAreSummed : Type 0
PodsAreSummed = HasValues total ((pod (clear (segment 1 ∷ segment 20 ∷ []) ∷ ad (segment 300 ∷ []) ∷ []), 321) ∷ (pod [], 0) ∷ (pod five_ads, 500) ∷ [])

-- 4.3.3.1: a segment, rounded to seconds, is at most the target duration; and an ad has an initialisation section if the origin's segments
-- have one
abbrev pub PodsFit : Type 0
PodsFit = HasValues (pod_fits 10 false) (
    (pod (clear (segment 10499999999 ∷ []) ∷ []), true)
    ∷ (pod (clear (segment 1 ∷ []) ∷ clear (segment 10500000000 ∷ []) ∷ []), false)
    ∷ (pod (clear (segment 1 ∷ segment 10499999999 ∷ []) ∷ clear (segment 10499999999 ∷ segment 1 ∷ []) ∷ []), true)
    ∷ (pod (clear (segment 1 ∷ segment 10500000000 ∷ []) ∷ []), false)
    ∷ (pod (clear (segment 10500000000 ∷ segment 1 ∷ []) ∷ []), false)
    ∷ (pod (ad (segment 1 ∷ []) ∷ []), false)
    ∷ (pod five_ads, true)
    ∷ (pod (five_ads_with (segment 10500000000)), false) ∷ [])

abbrev pub PodsWithInitSectionsFit : Type 0
PodsWithInitSectionsFit = HasValues (pod_fits 10 true) (
    (pod (ad (segment 1 ∷ []) ∷ []), true) ∷ (pod (clear (segment 1 ∷ []) ∷ []), false) ∷ (pod (ad (segment 1 ∷ []) ∷ clear (segment 1 ∷ []) ∷ []), false) ∷ [])

-- docs/DECISION_FILES.md: how many segments a pod has at most
abbrev pub most_of_a_pod : ℕ
most_of_a_pod = 500

-- docs/DECISION_FILES.md: an ad has a segment, and at most one key, which has an IV of 128 bits; a byte range ends below 2^64,
-- a segment lasts less than 1,000,000 s, and a pod has no more segments than it may
abbrev pub RulesAreKept : Type 0
RulesAreKept = HasValues ads_keep (
    (ad (segment 999999999999999 ∷ []) ∷ [], true)
    ∷ ([], false)
    ∷ (clear [] ∷ [], false)
    ∷ (clear (replicate most_of_a_pod (segment 1)) ∷ [], true)
    ∷ (clear (replicate most_of_a_pod (segment 1)) ∷ clear (segment 1 ∷ []) ∷ [], false)
    ∷ (clear (segment 1000000000000000 ∷ []) ∷ [], false)
    ∷ (clear (record (segment 1) { uri = codes "s" } ∷ []) ∷ [], false)
    ∷ (clear (record (segment 1) { byte_range = Some (record { length = 1; offset = 2 ^ 64 - 2 }) } ∷ []) ∷ [], true)
    ∷ (clear (record (segment 1) { byte_range = Some (record { length = 1; offset = 2 ^ 64 - 1 }) } ∷ []) ∷ [], false)
    ∷ (record (clear (segment 1 ∷ [])) { keys = key (Some (2 ^ 128 - 1)) ∷ [] } ∷ [], true)
    ∷ (record (clear (segment 1 ∷ [])) { keys = key (Some (2 ^ 128)) ∷ [] } ∷ [], false)
    ∷ (record (clear (segment 1 ∷ [])) { keys = key None ∷ [] } ∷ [], false)
    ∷ (record (clear (segment 1 ∷ [])) { keys = key (Some 1) ∷ key (Some 2) ∷ [] } ∷ [], false)
    ∷ (record (clear (segment 1 ∷ [])) { keys = record (key (Some 1)) { method = codes "NONE" } ∷ [] } ∷ [], false)
    ∷ (record (clear (segment 1 ∷ [])) { keys = record (key (Some 1)) { uri = codes "k" } ∷ [] } ∷ [], false)
    ∷ (record (clear (segment 1 ∷ [])) { keys = record (key (Some 1)) { format = [] } ∷ [] } ∷ [], false)
    ∷ (record (clear (segment 1 ∷ [])) { keys = record (key (Some 1)) { other_attributes = codes ",X=1" } ∷ [] } ∷ [], false)
    ∷ (record (clear (segment 1 ∷ [])) { init_section = Some (record (init_section []) { uri = codes "i" }) } ∷ [], false)
    ∷ (record (clear (segment 1 ∷ [])) { init_section = Some (init_section (key (Some 1) ∷ key (Some 2) ∷ [])) } ∷ [], false)
    ∷ (record (clear (segment 1 ∷ [])) { init_section = Some (init_section (key None ∷ [])) } ∷ [], false)
    ∷ (record (clear (segment 1 ∷ [])) { init_section = Some (init_section []) } ∷ [], true)
    ∷ (record (clear (segment 1 ∷ [])) { init_section = Some (record (init_section []) { byte_range = Some (record { length = 1; offset = 2 ^ 64 - 1 }) }) } ∷ [], false)
    ∷ (record (clear (segment 1 ∷ [])) { init_section = Some (record (init_section []) { uri = codes "http://" ++ long 32 }) } ∷ [], false)
    ∷ (clear (record (segment 1) { byte_range = None } ∷ []) ∷ [], true)
    ∷ (clear (segment 1 ∷ record (segment 1) { uri = codes "s" } ∷ []) ∷ [], false)
    ∷ (clear (record (segment 1) { uri = codes "http://" ++ long 32 } ∷ []) ∷ [], false)
    ∷ (clear (segment 1 ∷ []) ∷ clear [] ∷ [], false)
    ∷ (five_ads, true)
    ∷ (five_ads_with (record (segment 1) { uri = codes "s" }), false)
    ∷ (replicate 5 (clear (replicate 100 (segment 1))), true)
    ∷ (replicate 5 (clear (replicate 101 (segment 1))), false)
    ∷ (record (clear (segment 1 ∷ [])) { keys = record (key (Some 1)) { method = long 97 } ∷ [] } ∷ [], false)
    ∷ (record (clear (segment 1 ∷ [])) { keys = record (key (Some 1)) { uri = codes "http://" ++ long 32 } ∷ [] } ∷ [], false)
    ∷ (record (clear (segment 1 ∷ [])) { keys = record (key (Some 1)) { format = long 34 } ∷ [] } ∷ [], false) ∷ [])

-- ---- the store

-- a pod that lasts so many nanoseconds
abbrev pub short : ℕ → Pod
short nanos = pod (clear (segment nanos ∷ []) ∷ [])

abbrev pub unused : List ℕ → ℕ → Entry
unused id nanos = record { id = id; pod = short nanos; used = false; copied = false }

abbrev pub used : List ℕ → ℕ → Entry
used id nanos = record { id = id; pod = short nanos; used = true; copied = false }

abbrev pub copy : List ℕ → ℕ → Entry
copy id nanos = record { id = id; pod = short nanos; used = true; copied = true }

abbrev pub ab : Store
ab = record { entries = unused (codes "a") 1 ∷ used (codes "b") 2 ∷ []; fallback = None }

-- docs/DECISION_FILES.md: a break gets its pod, in the place of one that it had; a used break's pod is neither changed nor taken
-- away (J9); a break without a pod can't be withdrawn (J11); a fallback takes the place of the one before
abbrev pub DecisionsAreTaken : Type 0
DecisionsAreTaken = HasValues (decided ab) (
    (Breaks ((codes "c", short 3) ∷ (codes "a", short 4) ∷ []), Ok (record { entries = unused (codes "a") 4 ∷ used (codes "b") 2 ∷ unused (codes "c") 3 ∷ []; fallback = None }))
    ∷ (Breaks ((codes "c", short 3) ∷ (codes "b", short 4) ∷ []), Err (fault_at nowhere fault.Used))
    ∷ (Withdraw (codes "a"), Ok (record { entries = used (codes "b") 2 ∷ []; fallback = None }))
    ∷ (Withdraw (codes "b"), Err (fault_at nowhere fault.Used))
    ∷ (Withdraw (codes "c"), Err (fault_at nowhere fault.Unknown))
    ∷ (Fallback (short 5), Ok (record { entries = unused (codes "a") 1 ∷ used (codes "b") 2 ∷ []; fallback = Some (short 5) }))
    ∷ (NoFallback, Ok (record { entries = unused (codes "a") 1 ∷ used (codes "b") 2 ∷ []; fallback = None })) ∷ [])

-- breaks whose IDs differ in their last byte alone
abbrev pub alike : Store
alike = record { entries = unused (long 98) 1 ∷ unused (long 99) 2 ∷ unused (long 100) 3 ∷ used (long 101) 4 ∷ unused (long 102) 5 ∷ []; fallback = None }

abbrev pub LongIdsAreApart : Type 0
LongIdsAreApart = HasValues (decided alike) (
    (Breaks ((long 99, short 9) ∷ (long 103, short 7) ∷ []), Ok (record { entries = unused (long 98) 1 ∷ unused (long 99) 9 ∷ unused (long 100) 3 ∷ used (long 101) 4 ∷ unused (long 102) 5 ∷ unused (long 103) 7 ∷ []; fallback = None }))
    ∷ (
      Breaks ((codes "1", short 1) ∷ (codes "2", short 2) ∷ (codes "3", short 3) ∷ (codes "4", short 4) ∷ (codes "5", short 5) ∷ []),
      Ok (record { entries = unused (long 98) 1 ∷ unused (long 99) 2 ∷ unused (long 100) 3 ∷ used (long 101) 4 ∷ unused (long 102) 5 ∷ unused (codes "1") 1 ∷ unused (codes "2") 2 ∷ unused (codes "3") 3 ∷ unused (codes "4") 4 ∷ unused (codes "5") 5 ∷ []; fallback = None }),
    )
    ∷ (Breaks ((codes "1", short 1) ∷ (codes "2", short 2) ∷ (codes "3", short 3) ∷ (long 101, short 9) ∷ []), Err (fault_at nowhere fault.Used))
    ∷ (Withdraw (long 99), Ok (record { entries = unused (long 98) 1 ∷ unused (long 100) 3 ∷ used (long 101) 4 ∷ unused (long 102) 5 ∷ []; fallback = None }))
    ∷ (Withdraw (long 102), Ok (record { entries = unused (long 98) 1 ∷ unused (long 99) 2 ∷ unused (long 100) 3 ∷ used (long 101) 4 ∷ []; fallback = None }))
    ∷ (Withdraw (long 101), Err (fault_at nowhere fault.Used))
    ∷ (Withdraw (long 104), Err (fault_at nowhere fault.Unknown)) ∷ [])

-- so many decisions, for breaks of one byte or two each
abbrev pub breaks : ℕ → List Decision
breaks zero = []
breaks (suc n) = (n ∷ [], short 1) ∷ breaks n

abbrev pub fault_of : DecisionOutcome Store → Option DecisionKind
fault_of (Ok store) = None
fault_of (Err fault) = Some fault.kind

abbrev pub fault_of_breaks : Store × ℕ → Option DecisionKind
fault_of_breaks it = fault_of (decided it.0 (Breaks (breaks it.1)))

-- at most 256 breaks have pods that decisions gave them (J10); one that had one counts once, and a copy of the fallback doesn't.
-- That a break is used (J9) comes first
abbrev pub StoreIsLimited : Type 0
StoreIsLimited = HasValues fault_of_breaks (
    ((nothing_decided, 256), None)
    ∷ ((nothing_decided, 257), Some fault.Full)
    ∷ ((record { entries = unused (codes "ab") 1 ∷ []; fallback = None }, 256), Some fault.Full)
    ∷ ((record { entries = unused (0 ∷ []) 1 ∷ []; fallback = None }, 256), None)
    ∷ ((record { entries = copy (codes "ab") 1 ∷ []; fallback = None }, 256), None)
    ∷ ((record { entries = used (0 ∷ []) 1 ∷ []; fallback = None }, 257), Some fault.Used)
    ∷ ((record { entries = used (codes "ab") 1 ∷ []; fallback = None }, 256), Some fault.Full)
    ∷ ((alike, 251), None)
    ∷ ((alike, 252), Some fault.Full) ∷ [])

abbrev pub LongIdsCountOnce : Type 0
LongIdsCountOnce = HasValues (λ (n : ℕ). fault_of (decided alike (Breaks ((long 98, short 1) ∷ breaks n)))) ((251, None) ∷ (252, Some fault.Full) ∷ [])

-- a break is filled with the pod of its own, else with the fallback
abbrev pub PodsAreFound : Type 0
PodsAreFound = HasValues (pod_for (record ab { fallback = Some (short 9) })) (
    (codes "a", Some (short 1)) ∷ (codes "b", Some (short 2)) ∷ (codes "c", Some (short 9)) ∷ [])

-- a fallback that doesn't fit isn't another's place: the break's own pod counts
abbrev pub OwnPodsFit : Type 0
OwnPodsFit = HasValues (λ (id : List ℕ). has_fitting_pod (record { entries = unused (codes "a") 10500000000 ∷ []; fallback = Some (short 1) }) id 10 false) (
    (codes "a", false) ∷ (codes "b", true) ∷ [])

abbrev pub LongIdsAreFound : Type 0
LongIdsAreFound = HasValues (pod_for alike) ((long 98, Some (short 1)) ∷ (long 102, Some (short 5)) ∷ (long 104, None) ∷ [])

-- a break that has no pod, and no fallback, has none that fits
abbrev pub StoresFit : Type 0
StoresFit = HasValues (λ (it : Store × List ℕ). has_fitting_pod it.0 it.1 10 false) (
    ((nothing_decided, codes "a"), false) ∷ ((ab, codes "a"), true) ∷ ((alike, long 102), true) ∷ ((alike, long 104), false) ∷ [])

-- without a fallback there is nothing to copy
abbrev pub NothingIsCopied : Type 0
NothingIsCopied = HasValues (λ (ids : List (List ℕ)). kept_in_use ids alike) (
    (long 101 ∷ codes "z" ∷ [], alike)
    ∷ (codes "w" ∷ codes "x" ∷ codes "y" ∷ codes "z" ∷ long 101 ∷ [], alike)
    ∷ (codes "z" ∷ [], record { entries = unused (long 98) 1 ∷ unused (long 99) 2 ∷ unused (long 100) 3 ∷ unused (long 102) 5 ∷ []; fallback = None }) ∷ [])

-- of the used breaks those that aren't in use any more go, each break in use is used, and one without a pod of its own keeps a copy
-- of the fallback
abbrev pub UsedPodsStay : Type 0
UsedPodsStay = HasValues (λ (ids : List (List ℕ)). kept_in_use ids (record { entries = unused (codes "a") 1 ∷ used (codes "b") 2 ∷ copy (codes "c") 3 ∷ []; fallback = Some (short 9) })) (
    ([], record { entries = unused (codes "a") 1 ∷ []; fallback = Some (short 9) })
    ∷ (codes "a" ∷ codes "c" ∷ [], record { entries = used (codes "a") 1 ∷ copy (codes "c") 3 ∷ []; fallback = Some (short 9) })
    ∷ (codes "b" ∷ codes "d" ∷ codes "d" ∷ [], record { entries = unused (codes "a") 1 ∷ used (codes "b") 2 ∷ copy (codes "d") 9 ∷ []; fallback = Some (short 9) })
    ∷ (
      codes "b" ∷ codes "c" ∷ codes "x" ∷ codes "y" ∷ long 98 ∷ long 98 ∷ [],
      record { entries = unused (codes "a") 1 ∷ used (codes "b") 2 ∷ copy (codes "c") 3 ∷ copy (codes "x") 9 ∷ copy (codes "y") 9 ∷ copy (long 98) 9 ∷ []; fallback = Some (short 9) },
    ) ∷ [])

-- ---- decision files

abbrev pub refused : ℕ → ℕ → ℕ → DecisionKind → DecisionOutcome Decisions
refused pod ad segment kind = Err (fault_at (in_segment pod ad segment) kind)

-- docs/DECISION_FILES.md: one of `breaks`, `withdraw` and `fallback`, and each of their members. RFC 8259: the bytes 91 and 93 are
-- brackets; of a member that comes twice the last counts, and `serde_json` reads 127 levels, no number past the doubles and no lone
-- surrogate
abbrev pub FilesAreRead : Type 0
FilesAreRead = HasValues decisions_of ((
  codes "{\"breaks\":[{\"id\":\"b\",\"ads\":[{\"map\":{\"uri\":\"http://a/i\",\"offset\":1,\"length\":9},\"key\":{\"method\":\"AES-128\",\"uri\":\"http://a/k\",\"iv\":\"0x1F\",\"format\":\"f\"},\"segments\":[{\"uri\":\"http://a/s\",\"duration\":\"9.5\",\"offset\":5,\"length\":100}]}]}]}",
  Ok (Breaks ((codes "b", pod (ad (segment 9500000000 ∷ []) ∷ [])) ∷ [])),
)
    ∷ (
      codes "{\"breaks\":[{\"id\":\"break-100\",\"ads\":[{\"segments\":[{\"uri\":\"http://a/s\",\"duration\":\"1\",\"offset\":5,\"length\":100}]}]},{\"id\":\"break-101\",\"ads\":[{\"segments\":[{\"uri\":\"http://a/s\",\"duration\":\"2\",\"offset\":5,\"length\":100}]}]}]}",
      Ok (Breaks ((codes "break-100", pod (clear (segment 1000000000 ∷ []) ∷ [])) ∷ (codes "break-101", pod (clear (segment 2000000000 ∷ []) ∷ [])) ∷ [])),
    )
    ∷ (
      codes "{\"breaks\":[{\"id\":\"b\",\"ads\":[{\"key\":{\"method\":\"AES-128\",\"uri\":\"http://a/k\",\"iv\":\"0x1F\"},\"segments\":[{\"uri\":\"http://a/s\",\"duration\":\"1\"}]}]}]}",
      Ok (Breaks ((codes "b", pod (record { init_section = None; keys = record (key (Some 31)) { format = codes "identity" } ∷ []; segments = record (segment 1000000000) { byte_range = None } ∷ [] } ∷ [])) ∷ [])),
    )
    ∷ (
      codes "{\"breaks\":[{\"id\":\"b\",\"ads\":[{\"segments\":[{\"uri\":\"http://a/s\",\"duration\":\"1\",\"offset\":5,\"length\":100},{\"uri\":\"http://a/s\",\"duration\":\"2\",\"offset\":5,\"length\":100},{\"uri\":\"http://a/s\",\"duration\":\"3\",\"offset\":5,\"length\":100},{\"uri\":\"http://a/s\",\"duration\":\"4\",\"offset\":5,\"length\":100},{\"uri\":\"http://a/s\",\"duration\":\"5\",\"offset\":5,\"length\":100}]},{\"segments\":[{\"uri\":\"http://a/s\",\"duration\":\"6\",\"offset\":5,\"length\":100}]},{\"segments\":[{\"uri\":\"http://a/s\",\"duration\":\"7\",\"offset\":5,\"length\":100}]},{\"segments\":[{\"uri\":\"http://a/s\",\"duration\":\"8\",\"offset\":5,\"length\":100}]},{\"segments\":[{\"uri\":\"http://a/s\",\"duration\":\"9\",\"offset\":5,\"length\":100}]}]}]}",
      Ok (Breaks ((codes "b", pod (clear (segment 1000000000 ∷ segment 2000000000 ∷ segment 3000000000 ∷ segment 4000000000 ∷ segment 5000000000 ∷ []) ∷ clear (segment 6000000000 ∷ []) ∷ clear (segment 7000000000 ∷ []) ∷ clear (segment 8000000000 ∷ []) ∷ clear (segment 9000000000 ∷ []) ∷ [])) ∷ [])),
    )
    ∷ (
      codes "{\"fallback\":{\"ads\":[{\"segments\":[{\"uri\":\"http://a/" ++ (long 66 ++ (codes "\",\"duration\":\"" ++ (replicate 45 48 ++ codes "1\"}]}]}}"))),
      Ok (Fallback (pod (clear (record (segment 1000000000) { uri = codes "http://a/" ++ long 66; byte_range = None } ∷ []) ∷ []))),
    )
    ∷ (
      codes "{\"fallback\":{\"ads\":[{\"map\":{\"uri\":\"http://a/" ++ (long 66 ++ codes "\"},\"segments\":[{\"uri\":\"http://a/s\",\"duration\":\"1\",\"offset\":9223372036854775808,\"length\":1}]}]}}"),
      Ok (Fallback (pod (record (clear (record (segment 1000000000) { byte_range = Some (record { length = 1; offset = 9223372036854775808 }) } ∷ [])) { init_section = Some (record { uri = codes "http://a/" ++ long 66; byte_range = None; keys = [] }) } ∷ []))),
    )
    ∷ (codes "{\"breaks\":[]}", Ok (Breaks []))
    ∷ (codes "{\"withdraw\":\"b\"}", Ok (Withdraw (codes "b")))
    ∷ (codes "{\"fallback\":null}", Ok NoFallback)
    ∷ (codes "{\"fallback\":{\"ads\":[{\"segments\":[{\"uri\":\"http://a/s\",\"duration\":\"1\",\"offset\":5,\"length\":100}]}]}}", Ok (Fallback (short 1000000000)))
    ∷ (codes "{\"breaks\":7,\"breaks\":[]}", Ok (Breaks []))
    ∷ (codes "{", Err (fault_at nowhere fault.NotJson))
    ∷ (replicate 128 91 ++ replicate 128 93, Err (fault_at nowhere fault.NotJson))
    ∷ (replicate 127 91 ++ replicate 127 93, Err (fault_at nowhere fault.Shape))
    ∷ (codes "{\"breaks\":[],\"x\":1e999}", Err (fault_at nowhere fault.NotJson))
    ∷ (codes "{\"breaks\":[],\"x\":\"\\ud800\"}", Err (fault_at nowhere fault.NotJson))
    ∷ (34 ∷ 233 ∷ 34 ∷ [], Err (fault_at nowhere fault.NotJson))
    ∷ (codes "[]", Err (fault_at nowhere fault.Shape))
    ∷ (codes "{}", Err (fault_at nowhere fault.Shape))
    ∷ (codes "{\"breaks\":[],\"withdraw\":\"b\"}", Err (fault_at nowhere fault.Shape))
    ∷ (codes "{\"breaks\":[],\"fallback\":null}", Err (fault_at nowhere fault.Shape))
    ∷ (codes "{\"withdraw\":\"b\",\"fallback\":null}", Err (fault_at nowhere fault.Shape))
    ∷ (codes "{\"Breaks\":[]}", Err (fault_at nowhere fault.Shape))
    ∷ (codes "{\"x\":1,\"breaks\":[]}", Ok (Breaks []))
    ∷ (codes "{\"breaks\":7}", Err (fault_at nowhere fault.Shape))
    ∷ (codes "{\"breaks\":null}", Err (fault_at nowhere fault.Shape))
    ∷ (codes "{\"withdraw\":null}", Err (fault_at nowhere fault.Shape))
    ∷ (codes "{\"withdraw\":7}", Err (fault_at nowhere fault.Shape))
    ∷ (codes "{\"withdraw\":\"\"}", Err (fault_at nowhere fault.Shape))
    ∷ (codes "{\"fallback\":7}", Err (fault_at nowhere fault.Shape))
    ∷ (codes "{\"fallback\":\"x\"}", Err (fault_at nowhere fault.Shape))
    ∷ (codes "{\"fallback\":false}", Err (fault_at nowhere fault.Shape))
    ∷ (codes "{\"fallback\":{}}", Err (fault_at nowhere fault.Shape))
    ∷ (codes "{\"fallback\":{\"ads\":null}}", Err (fault_at nowhere fault.Shape))
    ∷ (codes "{\"fallback\":{\"ads\":[]}}", Err (fault_at nowhere fault.EmptyPod))
    ∷ (codes "{\"fallback\":{\"ads\":[{\"segments\":[{\"uri\":\"http://a\",\"duration\":\"1\"}]},{\"segments\":[]}]}}", Err (fault_at (record { pod = None; ad = Some 1; segment = None }) fault.EmptyPod))
    ∷ (codes "{\"fallback\":{\"ads\":[{\"segments\":[]}]}}", Err (fault_at (record { pod = None; ad = Some 0; segment = None }) fault.EmptyPod)) ∷ [])

-- their first faults, with their places
abbrev pub BreaksAreChecked : Type 0
BreaksAreChecked = HasValues decisions_of (
    (codes "{\"breaks\":[{\"ads\":[]}]}", Err (fault_at (in_break 0) fault.Shape))
    ∷ (codes "{\"breaks\":[{\"id\":\"\",\"ads\":[]}]}", Err (fault_at (in_break 0) fault.Shape))
    ∷ (codes "{\"breaks\":[{\"id\":\"b\"}]}", Err (fault_at (in_break 0) fault.Shape))
    ∷ (codes "{\"breaks\":[{\"id\":\"b\",\"ads\":[]}]}", Err (fault_at (in_break 0) fault.EmptyPod))
    ∷ (codes "{\"breaks\":[{\"id\":\"b\",\"ads\":[{\"segments\":[{\"uri\":\"http://a\",\"duration\":\"1\"}]}]},{\"id\":\"b\",\"ads\":[]}]}", Err (fault_at (in_break 1) fault.Shape))
    ∷ (codes "{\"breaks\":[{\"id\":\"b\",\"ads\":[{}]}]}", Err (fault_at (in_ad 0 0) fault.Shape))
    ∷ (codes "{\"breaks\":[{\"id\":\"b\",\"ads\":[{\"segments\":[{\"uri\":\"http://a\",\"duration\":\"1\"}]}]},{\"id\":\"c\",\"ads\":[{}]}]}", Err (fault_at (in_ad 1 0) fault.Shape))
    ∷ (codes "{\"breaks\":[{\"id\":\"b\",\"ads\":[{\"segments\":[{\"uri\":\"http://a\",\"duration\":\"1\"}]}]},{\"id\":\"c\",\"ads\":[{\"map\":7}]}]}", Err (fault_at (in_ad 1 0) fault.Shape))
    ∷ (codes "{\"breaks\":[{\"id\":\"b\",\"ads\":[{\"segments\":[{\"uri\":\"http://a\",\"duration\":\"1\"}]}]},{\"id\":\"c\",\"ads\":[{\"map\":{\"uri\":\"i\"}}]}]}", Err (fault_at (in_ad 1 0) fault.BadUri))
    ∷ (codes "{\"breaks\":[{\"id\":\"b\",\"ads\":[{\"segments\":[{\"uri\":\"http://a\",\"duration\":\"1\"}]}]},{\"id\":\"c\",\"ads\":[{\"key\":7}]}]}", Err (fault_at (in_ad 1 0) fault.Shape))
    ∷ (codes "{\"breaks\":[{\"id\":\"b\",\"ads\":[{\"segments\":[{\"uri\":\"http://a\",\"duration\":\"1\"}]}]},{\"id\":\"c\",\"ads\":[{\"segments\":[]}]}]}", Err (fault_at (in_ad 1 0) fault.EmptyPod))
    ∷ (codes "{\"breaks\":[{\"id\":\"b\",\"ads\":[{\"segments\":[{\"uri\":\"http://a\",\"duration\":\"1\"}]}]},{\"id\":\"c\",\"ads\":[{\"segments\":[{}]}]}]}", Err (fault_at (in_segment 1 0 0) fault.Shape))
    ∷ (codes "{\"breaks\":[{\"id\":\"a\",\"ads\":[{\"segments\":[{\"uri\":\"http://a\",\"duration\":\"1\"}]}]},{\"id\":\"b\",\"ads\":[{\"segments\":[{\"uri\":\"http://a\",\"duration\":\"1\"}]}]},{\"id\":\"c\",\"ads\":[{\"segments\":[{\"uri\":\"http://a\",\"duration\":\"1\"}]}]},{\"id\":\"d\",\"ads\":[{\"segments\":[{\"uri\":\"http://a\",\"duration\":\"1\"}]}]},{\"id\":\"d\",\"ads\":[{\"segments\":[{\"uri\":\"http://a\",\"duration\":\"1\"}]}]}]}", Err (fault_at (in_break 4) fault.Shape))
    ∷ (codes "{\"fallback\":{\"ads\":[{\"segments\":[{\"uri\":\"http://a\",\"duration\":\"x\"}]}]}}", Err (fault_at (record { pod = None; ad = Some 0; segment = Some 0 }) fault.BadDuration))
    ∷ (codes "{\"breaks\":[{\"id\":\"b\",\"ads\":[{\"segments\":[]}]},{\"id\":\"\"}]}", Err (fault_at (in_ad 0 0) fault.EmptyPod))
    ∷ (codes "{\"breaks\":[{\"id\":\"b\",\"ads\":[{\"segments\":[]}]}]}", Err (fault_at (in_ad 0 0) fault.EmptyPod)) ∷ [])

-- a file of one ad
abbrev pub with_ad : List ℕ → List ℕ
with_ad text = codes "{\"breaks\":[{\"id\":\"b\",\"ads\":[" ++ (text ++ codes "]}]}")

-- of two faults that in the map is told before that in the key, and this before those in the segments
abbrev pub AdsAreChecked : Type 0
AdsAreChecked = HasValues (λ (text : List ℕ). decisions_of (with_ad text)) (
    (codes "{\"map\":7}", Err (fault_at (in_ad 0 0) fault.Shape))
    ∷ (codes "{\"map\":null}", Err (fault_at (in_ad 0 0) fault.Shape))
    ∷ (codes "{\"segments\":[]}", Err (fault_at (in_ad 0 0) fault.EmptyPod))
    ∷ (codes "{\"map\":{\"uri\":\"i\"}}", Err (fault_at (in_ad 0 0) fault.BadUri))
    ∷ (codes "{\"map\":{\"uri\":\"http://a/" ++ (long 32 ++ codes "\"}}"), Err (fault_at (in_ad 0 0) fault.BadUri))
    ∷ (codes "{\"map\":{\"uri\":\"i\",\"offset\":1}}", Err (fault_at (in_ad 0 0) fault.BadUri))
    ∷ (codes "{\"map\":{\"uri\":\"http://a/i\",\"offset\":1}}", Err (fault_at (in_ad 0 0) fault.Shape))
    ∷ (codes "{\"map\":{\"uri\":\"i\"},\"key\":7}", Err (fault_at (in_ad 0 0) fault.BadUri))
    ∷ (codes "{\"key\":7}", Err (fault_at (in_ad 0 0) fault.Shape))
    ∷ (codes "{\"key\":7,\"segments\":[]}", Err (fault_at (in_ad 0 0) fault.Shape))
    ∷ (codes "{\"key\":{\"method\":\"none\",\"uri\":\"k\",\"iv\":\"0x1\"}}", Err (fault_at (in_ad 0 0) fault.BadKey))
    ∷ (codes "{\"key\":{\"method\":\"AES-128\",\"uri\":\"k\",\"iv\":\"1\"}}", Err (fault_at (in_ad 0 0) fault.BadUri))
    ∷ (codes "{\"key\":{\"uri\":\"http://a/k\",\"iv\":\"0x1\"}}", Err (fault_at (in_ad 0 0) fault.BadKey))
    ∷ (codes "{\"key\":{\"method\":\"NONE\",\"uri\":\"http://a/k\",\"iv\":\"0x1\"}}", Err (fault_at (in_ad 0 0) fault.BadKey))
    ∷ (codes "{\"key\":{\"method\":\"AES-128\",\"iv\":\"0x1\"}}", Err (fault_at (in_ad 0 0) fault.BadKey))
    ∷ (codes "{\"key\":{\"method\":\"AES-128\",\"uri\":\"k\",\"iv\":\"0x1\"}}", Err (fault_at (in_ad 0 0) fault.BadUri))
    ∷ (codes "{\"key\":{\"method\":\"AES-128\",\"uri\":\"http://a/k\"}}", Err (fault_at (in_ad 0 0) fault.BadKey))
    ∷ (codes "{\"key\":{\"method\":\"AES-128\",\"uri\":\"http://a/k\",\"iv\":\"1\"}}", Err (fault_at (in_ad 0 0) fault.BadKey))
    ∷ (codes "{\"key\":{\"method\":\"AES-128\",\"uri\":\"http://a/k\",\"iv\":\"0x1\",\"format\":\"\"}}", Err (fault_at (in_ad 0 0) fault.BadKey))
    ∷ (codes "{\"key\":{\"method\":\"AES-128\",\"uri\":\"http://a/k\",\"iv\":\"0x1\",\"format\":null}}", Err (fault_at (in_ad 0 0) fault.BadKey))
    ∷ (codes "{\"segments\":[{\"duration\":\"1\"}]}", refused 0 0 0 fault.Shape)
    ∷ (codes "{\"segments\":[{\"uri\":\"http://a\"}]}", refused 0 0 0 fault.Shape)
    ∷ (codes "{\"segments\":[{\"uri\":\"http://a\",\"duration\":1}]}", refused 0 0 0 fault.Shape)
    ∷ (codes "{\"segments\":[{\"uri\":\"a\"}]}", refused 0 0 0 fault.Shape)
    ∷ (codes "{\"segments\":[{\"uri\":\"a\",\"duration\":\"x\"}]}", refused 0 0 0 fault.BadUri)
    ∷ (codes "{\"segments\":[{\"uri\":\"a\",\"duration\":\"1\",\"offset\":1}]}", refused 0 0 0 fault.BadUri)
    ∷ (codes "{\"segments\":[{\"uri\":\"http://a\",\"duration\":\"x\",\"offset\":1}]}", refused 0 0 0 fault.Shape)
    ∷ (codes "{\"segments\":[{\"uri\":\"http://a\",\"duration\":\"1\"},{\"uri\":\"http://a\",\"duration\":\"x\"}]}", refused 0 0 1 fault.BadDuration)
    ∷ (codes "{\"segments\":[{\"uri\":\"http://a\",\"duration\":\"1\",\"offset\":1}]}", refused 0 0 0 fault.Shape)
    ∷ (codes "{\"segments\":[{\"uri\":\"http://a\",\"duration\":\"1\",\"length\":1}]}", refused 0 0 0 fault.Shape)
    ∷ (codes "{\"segments\":[{\"uri\":\"http://a\",\"duration\":\"1\",\"offset\":1.0,\"length\":1}]}", refused 0 0 0 fault.Shape)
    ∷ (codes "{\"segments\":[{\"uri\":\"http://a\",\"duration\":\"1\",\"offset\":1,\"length\":1.0}]}", refused 0 0 0 fault.Shape)
    ∷ (codes "{\"segments\":[{\"uri\":\"http://a\",\"duration\":\"1\",\"offset\":-0,\"length\":1}]}", refused 0 0 0 fault.Shape)
    ∷ (codes "{\"segments\":[{\"uri\":\"http://\",\"duration\":\"x\"}]}", refused 0 0 0 fault.BadUri)
    ∷ (codes "{\"segments\":[{\"uri\":\"http://a\",\"duration\":\"1\",\"offset\":18446744073709551615,\"length\":1}]}", refused 0 0 0 fault.Shape) ∷ [])

-- the segments of an ad, if so many stand in the ads before (J7)
abbrev pub said_after : ℕ → DecisionOutcome (List PodSegment)
said_after before = json_of_decision_file (codes "{\"segments\":[{\"uri\":\"http://a/s\",\"duration\":\"0.000000001\",\"offset\":5,\"length\":100}]}") >>= segments_said_by_decision_file (in_ad 0 1) before

abbrev pub SegmentsAreCounted : Type 0
SegmentsAreCounted = HasValues said_after ((most_of_a_pod - 1, Ok (segment 1 ∷ [])) ∷ (most_of_a_pod, Err (fault_at (in_segment 0 1 0) fault.TooMany)) ∷ [])

-- an ad of two segments after these ads
abbrev pub said_after_ads : List Ad → DecisionOutcome Ad
said_after_ads done = json_of_decision_file (codes "{\"segments\":[{\"uri\":\"http://a/s\",\"duration\":\"0.000000001\",\"offset\":5,\"length\":100},{\"uri\":\"http://a/s\",\"duration\":\"0.000000002\",\"offset\":5,\"length\":100}]}") >>= next_ad (in_break 7) done

abbrev pub AdsAreCounted : Type 0
AdsAreCounted = HasValues said_after_ads (
    (clear (replicate (most_of_a_pod - 2) (segment 1)) ∷ [], Ok (clear (segment 1 ∷ segment 2 ∷ [])))
    ∷ (clear (replicate (most_of_a_pod - 1) (segment 1)) ∷ [], Err (fault_at (in_segment 7 1 1) fault.TooMany))
    ∷ (clear (replicate most_of_a_pod (segment 1)) ∷ [], Err (fault_at (in_segment 7 1 0) fault.TooMany))
    ∷ (clear (segment 1 ∷ []) ∷ clear (segment 1 ∷ []) ∷ clear (segment 1 ∷ []) ∷ clear (segment 1 ∷ []) ∷ clear (replicate (most_of_a_pod - 6) (segment 1)) ∷ [], Ok (clear (segment 1 ∷ segment 2 ∷ [])))
    ∷ (clear (segment 1 ∷ []) ∷ clear (segment 1 ∷ []) ∷ clear (segment 1 ∷ []) ∷ clear (segment 1 ∷ []) ∷ clear (replicate (most_of_a_pod - 5) (segment 1)) ∷ [], Err (fault_at (in_segment 7 5 1) fault.TooMany)) ∷ [])

-- five segments after these
abbrev pub said_five_after : ℕ → DecisionOutcome (List PodSegment)
said_five_after before = json_of_decision_file (codes "{\"segments\":[{\"uri\":\"http://a/s\",\"duration\":\"0.000000001\",\"offset\":5,\"length\":100},{\"uri\":\"http://a/s\",\"duration\":\"0.000000002\",\"offset\":5,\"length\":100},{\"uri\":\"http://a/s\",\"duration\":\"0.000000003\",\"offset\":5,\"length\":100},{\"uri\":\"http://a/s\",\"duration\":\"0.000000004\",\"offset\":5,\"length\":100},{\"uri\":\"http://a/s\",\"duration\":\"0.000000005\",\"offset\":5,\"length\":100}]}") >>= segments_said_by_decision_file (in_ad 0 1) before

abbrev pub ManySegmentsAreCounted : Type 0
ManySegmentsAreCounted = HasValues said_five_after (
    (most_of_a_pod - 5, Ok (segment 1 ∷ segment 2 ∷ segment 3 ∷ segment 4 ∷ segment 5 ∷ [])) ∷ (most_of_a_pod - 4, Err (fault_at (in_segment 0 1 4) fault.TooMany)) ∷ [])

-- docs/OPERATING.md, "Faults"
abbrev pub FaultsOfFilesAreTold : Type 0
FaultsOfFilesAreTold = HasValues fault_text (
    (fault_at nowhere fault.NotJson, codes "J1 NotJson")
    ∷ (fault_at (in_break 1) fault.Shape, codes "J2 Shape break 1")
    ∷ (fault_at (in_segment 1 2 3) fault.BadUri, codes "J3 BadUri break 1 ad 2 segment 3")
    ∷ (fault_at nowhere fault.BadDuration, codes "J4 BadDuration")
    ∷ (fault_at (in_ad 1 2) fault.BadKey, codes "J5 BadKey break 1 ad 2")
    ∷ (fault_at nowhere fault.EmptyPod, codes "J6 EmptyPod")
    ∷ (fault_at nowhere fault.TooMany, codes "J7 TooMany")
    ∷ (fault_at nowhere fault.OutOfMemory, codes "J8 OutOfMemory")
    ∷ (fault_at nowhere fault.Used, codes "J9 Used")
    ∷ (fault_at nowhere fault.Full, codes "J10 Full")
    ∷ (fault_at nowhere fault.Unknown, codes "J11 Unknown") ∷ [])

-- memory that ran out is no fault of a place in the file
abbrev pub LackOfMemoryHasNoPlace : Type 0
LackOfMemoryHasNoPlace = HasValues (λ (fault : DecisionFault). fault) ((no_memory, fault_at nowhere fault.OutOfMemory) ∷ [])
