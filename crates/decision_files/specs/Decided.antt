-- What a decision file says: a function of its JSON value, with the kind and place of the first fault.
use Rattle.std.specs.Prelude.{ℕ, ◌+◌, ◌^◌, not, ◌==◌, nat_le, nat_lt, List, [], ◌∷◌, map, sum, length, codes, Option, Some, None, Ok, Err, is_some, unwrap_or, option_map, bytes_eq, if◌then◌else◌}
use Rattle.std.specs.List.{list_any}
use Rattle.std.specs.Str.{is_utf8}
use Rattle.fixed_duration.specs.Duration.{duration_of}
use Rattle.attr_list.specs.Numbers.{hex_of}
use Rattle.playlist_model.specs.declared.ByteRange.{ByteRange}
use Rattle.playlist_model.specs.declared.InitSection.{InitSection}
use Rattle.playlist_model.specs.declared.Key.{Key}
use Rattle.pod_store.specs.Limits.{most_pod_segments}
use Rattle.pod_store.specs.Pods.{PodSegment, Ad, Pod, Decision, is_id, is_uri, is_key_method, is_format, segment_count}
use Rattle.serde_json.specs.Data.{Data}
use Rattle.serde_json.specs.Find.{get, as_null, as_str, as_object}
use Rattle.serde_json.specs.Read.{read}
use Rattle.pod_store.specs.declared.Decisions.{Decisions}
use Rattle.pod_store.specs.declared.Decisions.TheVariants.{Breaks, Withdraw, Fallback, NoFallback}
use Rattle.pod_store.specs.declared.fault.Place.{Place}
use Rattle.pod_store.specs.declared.fault.DecisionKind.TheVariants.{NotJson, Shape, BadUri, BadDuration, BadKey, EmptyPod, TooMany}
use Rattle.spec_words.specs.Outcomes.{◌>>=◌, or_fault, mended, refuse_if, optional, each_after}
use Rattle.pod_store.specs.Outcome.{DecisionOutcome, nowhere, in_break, in_ad, in_segment, fault_at}
use Rattle.decision_files.specs.Json.{json_text_in_decision_file, json_values_in_decision_file, json_list_in_decision_file, json_number_in_decision_file}

-- ---- ranges

abbrev pub byte_range_in_decision_file : Place → Option ℕ → Option ℕ → DecisionOutcome ByteRange
byte_range_in_decision_file place (Some offset) (Some length) =
    refuse_if (not (nat_lt (length + offset) (2 ^ 64))) (fault_at place Shape) (Ok (record { length = length; offset = offset }))
byte_range_in_decision_file place (Some offset) None = Err (fault_at place Shape)
byte_range_in_decision_file place None length = Err (fault_at place Shape)

-- both or neither of `offset` and `length`
abbrev pub byte_range_from : Place → Option Data → Option Data → DecisionOutcome (Option ByteRange)
byte_range_from place None None = Ok None
byte_range_from place (Some offset) (Some length) = byte_range_in_decision_file place (json_number_in_decision_file offset) (json_number_in_decision_file length) >>= λ byte_range. Ok (Some byte_range)
byte_range_from place (Some offset) None = Err (fault_at place Shape)
byte_range_from place None (Some length) = Err (fault_at place Shape)

abbrev pub byte_range_said_by_decision_file : Place → Data → DecisionOutcome (Option ByteRange)
byte_range_said_by_decision_file place d = byte_range_from place (get (codes "offset") d) (get (codes "length") d)

-- ---- an ad's map and key

-- a resource, and the part of it if it isn't the whole
abbrev pub Part : Type 0
Part = List ℕ × Option ByteRange

abbrev pub part_said_by_decision_file : Place → List ℕ → Data → DecisionOutcome Part
part_said_by_decision_file place uri d = refuse_if (not (is_uri uri)) (fault_at place BadUri) (byte_range_said_by_decision_file place d >>= λ byte_range. Ok (uri, byte_range))

abbrev pub init_section_said_by_decision_file : Place → Data → DecisionOutcome Part
init_section_said_by_decision_file place d = or_fault (fault_at place Shape) (json_text_in_decision_file (codes "uri") d) >>= λ uri. part_said_by_decision_file place uri d

abbrev pub text_said_by_decision_file : Place → Data → DecisionOutcome (List ℕ)
text_said_by_decision_file place d = or_fault (fault_at place BadKey) (as_str d)

-- the format, if it is stated
abbrev pub format_said_by_decision_file : Place → Data → DecisionOutcome (List ℕ)
format_said_by_decision_file place d = text_said_by_decision_file place d >>= λ text. refuse_if (not (is_format text)) (fault_at place BadKey) (Ok text)

abbrev pub method_said_by_decision_file : Place → Data → DecisionOutcome (List ℕ)
method_said_by_decision_file place d =
    or_fault (fault_at place BadKey) (json_text_in_decision_file (codes "method") d) >>= λ method.
    refuse_if (not (is_key_method method)) (fault_at place BadKey) (Ok method)

abbrev pub key_uri_said_by_decision_file : Place → Data → DecisionOutcome (List ℕ)
key_uri_said_by_decision_file place d =
    or_fault (fault_at place BadKey) (json_text_in_decision_file (codes "uri") d) >>= λ uri.
    refuse_if (not (is_uri uri)) (fault_at place BadUri) (Ok uri)

abbrev pub iv_said_by_decision_file : Place → Data → DecisionOutcome ℕ
iv_said_by_decision_file place d =
    or_fault (fault_at place BadKey) (json_text_in_decision_file (codes "iv") d) >>= λ iv. or_fault (fault_at place BadKey) (hex_of iv)

abbrev pub key_members_in_decision_file : Place → Data → DecisionOutcome Key
key_members_in_decision_file place d =
    method_said_by_decision_file place d >>= λ method.
    key_uri_said_by_decision_file place d >>= λ uri.
    iv_said_by_decision_file place d >>= λ iv.
    optional (format_said_by_decision_file place) (get (codes "format") d) >>= λ format.
    Ok (record { format = unwrap_or format (codes "identity"); method = method; uri = uri; iv = Some iv; other_attributes = [] })

abbrev pub key_said_by_decision_file : Place → Data → DecisionOutcome Key
key_said_by_decision_file place d = or_fault (fault_at place Shape) (as_object d) >>= λ members. key_members_in_decision_file place d

abbrev pub keys_of_decision_file : Option Key → List Key
keys_of_decision_file None = []
keys_of_decision_file (Some key) = key ∷ []

-- the initialisation section has the ad's keys
abbrev pub init_section_with_decision_file_keys : List Key → Part → InitSection
init_section_with_decision_file_keys keys part = record { uri = part.0; byte_range = part.1; keys = keys }

-- ---- segments

abbrev pub segment_texts_in_decision_file : Place → List ℕ → List ℕ → Data → DecisionOutcome PodSegment
segment_texts_in_decision_file place uri duration d =
    part_said_by_decision_file place uri d >>= λ part.
    mended (fault_at place BadDuration) (duration_of duration) >>= λ nanos.
    Ok (record { uri = part.0; byte_range = part.1; duration = nanos })

abbrev pub segment_said_by_decision_file : Place → Data → DecisionOutcome PodSegment
segment_said_by_decision_file place d =
    or_fault (fault_at place Shape) (json_text_in_decision_file (codes "uri") d) >>= λ uri.
    or_fault (fault_at place Shape) (json_text_in_decision_file (codes "duration") d) >>= λ duration.
    segment_texts_in_decision_file place uri duration d

-- the segment after these of the ad at a place, if so many of its pod stand in the ads before
abbrev pub next_segment_of_decision_file : Place → ℕ → List PodSegment → Data → DecisionOutcome PodSegment
next_segment_of_decision_file ad before done d =
    let place = in_segment ad (length done) in
    refuse_if (nat_le most_pod_segments (before + length done)) (fault_at place TooMany) (segment_said_by_decision_file place d)

-- ---- ads

abbrev pub segments_said_by_decision_file : Place → ℕ → Data → DecisionOutcome (List PodSegment)
segments_said_by_decision_file place before d =
    or_fault (fault_at place Shape) (json_list_in_decision_file (codes "segments") d) >>= λ list.
    refuse_if (length list == 0) (fault_at place EmptyPod) (each_after (next_segment_of_decision_file place before) [] list)

abbrev pub ad_of_decision_file : Option Part → Option Key → List PodSegment → Ad
ad_of_decision_file part key segments = record {
  init_section = option_map (init_section_with_decision_file_keys (keys_of_decision_file key)) part;
  keys = keys_of_decision_file key;
  segments = segments;
}

-- the ad at a place, whose pod has so many segments in the ads before
abbrev pub ad_said_by_decision_file : Place → ℕ → Data → DecisionOutcome Ad
ad_said_by_decision_file place before d =
    optional (init_section_said_by_decision_file place) (get (codes "map") d) >>= λ part.
    optional (key_said_by_decision_file place) (get (codes "key") d) >>= λ key.
    segments_said_by_decision_file place before d >>= λ segments.
    Ok (ad_of_decision_file part key segments)

-- the ad after these of the pod at a place
abbrev pub next_ad : Place → List Ad → Data → DecisionOutcome Ad
next_ad pod done d = ad_said_by_decision_file (in_ad pod (length done)) (sum (map segment_count done)) d

-- ---- breaks

abbrev pub decision_id : Decision → List ℕ
decision_id decision = decision.0

-- the pod of these ads, in a break or in none
abbrev pub pod_said_by_decision_file : Place → List Data → DecisionOutcome Pod
pod_said_by_decision_file place ads =
    refuse_if (length ads == 0) (fault_at place EmptyPod)
    (each_after (next_ad place) [] ads >>= λ said. Ok (record { ads = said }))

abbrev pub id_said_by_decision_file : ℕ → Data → DecisionOutcome (List ℕ)
id_said_by_decision_file pod d =
    or_fault (fault_at (in_break pod) Shape) (json_text_in_decision_file (codes "id") d) >>= λ id.
    refuse_if (not (is_id id)) (fault_at (in_break pod) Shape) (Ok id)

-- a break, whose ID is none of those before
abbrev pub decision_said : ℕ → List (List ℕ) → Data → DecisionOutcome Decision
decision_said pod before d =
    id_said_by_decision_file pod d >>= λ id.
    or_fault (fault_at (in_break pod) Shape) (json_list_in_decision_file (codes "ads") d) >>= λ ads.
    refuse_if (list_any (bytes_eq id) before) (fault_at (in_break pod) Shape)
    (pod_said_by_decision_file (in_break pod) ads >>= λ said. Ok (id, said))

abbrev pub next_break : List Decision → Data → DecisionOutcome Decision
next_break done d = decision_said (length done) (map decision_id done) d

-- ---- the file

abbrev pub breaks_said_by_decision_file : Data → DecisionOutcome Decisions
breaks_said_by_decision_file d =
    or_fault (fault_at nowhere Shape) (json_values_in_decision_file d) >>= λ breaks. each_after next_break [] breaks >>= λ said. Ok (Breaks said)

abbrev pub withdrawal_said_by_decision_file : Data → DecisionOutcome Decisions
withdrawal_said_by_decision_file d =
    or_fault (fault_at nowhere Shape) (as_str d) >>= λ id. refuse_if (not (is_id id)) (fault_at nowhere Shape) (Ok (Withdraw id))

-- the ads stand in no break
abbrev pub fallback_pod_of_decision_file : Data → DecisionOutcome Decisions
fallback_pod_of_decision_file d =
    or_fault (fault_at nowhere Shape) (json_list_in_decision_file (codes "ads") d) >>= λ ads. pod_said_by_decision_file nowhere ads >>= λ pod. Ok (Fallback pod)

-- null, or the ads of the fallback
abbrev pub fallback_said_by_decision_file : Data → DecisionOutcome Decisions
fallback_said_by_decision_file d = if is_some (as_null d) then Ok NoFallback else fallback_pod_of_decision_file d

-- exactly one of `breaks`, `withdraw` and `fallback`
abbrev pub members_said : Option Data → Option Data → Option Data → DecisionOutcome Decisions
members_said (Some breaks) None None = breaks_said_by_decision_file breaks
members_said None (Some id) None = withdrawal_said_by_decision_file id
members_said None None (Some pod) = fallback_said_by_decision_file pod
members_said _ _ _ = Err (fault_at nowhere Shape)

abbrev pub decisions_said_by_json : Data → DecisionOutcome Decisions
decisions_said_by_json d = members_said (get (codes "breaks") d) (get (codes "withdraw") d) (get (codes "fallback") d)

-- the JSON value of some bytes, as `serde_json` reads it
abbrev pub json_of_decision_file : List ℕ → DecisionOutcome Data
json_of_decision_file bytes = refuse_if (not (is_utf8 bytes)) (fault_at nowhere NotJson) (or_fault (fault_at nowhere NotJson) (read bytes))

-- what the bytes of a decision file say
abbrev pub decisions_of : List ℕ → DecisionOutcome Decisions
decisions_of bytes = json_of_decision_file bytes >>= decisions_said_by_json
