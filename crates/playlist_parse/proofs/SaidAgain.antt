-- The date ranges of a text that was read are what their attributes say.
use Rattle.std.proofs.Common.{◌≡◌, ℕ, ◌+◌, Bool, true, false, List, [], ◌∷◌, ◌++◌, length, codes, refl, ap, ◌∙◌, subst, arith}
use Rattle.std.specs.Prelude.{Result, Ok, Err, Option, ℤ, ◌||◌, unwrap_or, option_map}
use Rattle.std.specs.List.{list_any}
use Rattle.url.specs.Parts.{Parts}
use Rattle.spec_words.specs.Outcomes.{◌>>=◌, refuse_if, or_fault, mended, optional}
use Rattle.attr_list.specs.Attributes.{Pair, attribute}
use Rattle.date_times.specs.Instant.{instant_of}
use Rattle.fixed_duration.specs.Duration.{duration_of}
use Rattle.attr_list.specs.Attributes.{is_comma}
use Rattle.std.specs.List.{before_first, after_first}
use Rattle.playlist_model.specs.Carried.{carried, after_commas}
use Rattle.playlist_model.specs.declared.DateRange.{DateRange}
use Rattle.playlist_model.specs.declared.ByteRange.{ByteRange}
use Rattle.playlist_model.specs.declared.FaultKind.{FaultKind}
use Rattle.playlist_model.specs.declared.FaultKind.TheVariants as fault
use Rattle.playlist_model.specs.Lines.{Kind, ignored, uri, tag}
use Rattle.playlist_model.specs.Said.{Said, Outcome, Name, version_tag, target_tag, sequence_tag, discontinuity_sequence_tag, type_tag, ended_tag, independent_tag, frames_tag, master_tag, duration_tag, byte_range_tag, discontinuity_tag, key_tag, init_section_tag, time_tag, date_range_tag, unknown_tag, version, target, sequence, discontinuity_sequence, playlist_type, ended, duration, byte_range, discontinuity, key, init_section, time, date_range, number_said, version_of, playlist_type_of, byte_range_of, required, quoted_of, key_said, init_section_byte_range, init_section_said, time_of, attribute_duration_of, value_in_pair, uri_of, over, date_range_of, date_range_said}
use Rattle.playlist_model.specs.LookBack.{the_version, the_target, the_sequence, the_discontinuity_sequence, the_type, is_media, is_discontinuity, is_ended, discontinuity_at, keys_at, date_ranges_of}
use Rattle.playlist_model.specs.Reading.{limited, is_set, has, passes, key_needs_iv, within_formats, with_ivs, said_by, said_by_tag, said_by_kind, said_by_uri, said_from, at_line, Fault, name_of}
use Rattle.playlist_parse.specs.Inner.ParsedDateRanges.{IsSaidByAttributes, AreSaidByAttributes}

-- ---- what holds of an outcome, if it is one

abbrev Only : (Said → Type 0) → Outcome Said → Type 0
Only P (Ok s) = P s
Only P (Err e) = Unit {0}

only_if : (P : Said → Type 0) (b : Bool) (e : FaultKind) (o : Outcome Said) → Only P o → Only P (refuse_if b e o)
only_if P true e o h = tt
only_if P false e o h = h

only_then : {A : Type 0} (P : Said → Type 0) (o : Outcome A) (f : A → Outcome Said) → ((x : A) → Only P (f x)) → Only P (o >>= f)
only_then P (Ok x) f h = h x
only_then P (Err e) f h = tt

only_both : (P : Said → Type 0) (o : Outcome Said) (f : Said → Outcome Said) → Only P o → ((s : Said) → P s → Only P (f s)) → Only P (o >>= f)
only_both P (Ok s) f h k = k s h
only_both P (Err e) f h k = tt

-- ---- a date range

abbrev HasText : List ℕ → Said → Type 0
HasText rest (date_range one) = one.attributes ≡ rest
HasText rest _ = ⊥

abbrev after_lasts : List ℕ → List Pair → List ℕ → Option ℤ → Option ℤ → Option ℕ → Outcome Said
after_lasts text pairs id start end lasts =
    optional attribute_duration_of (attribute pairs (codes "PLANNED-DURATION")) >>= λ planned.
    Ok (date_range (record {
      id = id;
      start = start;
      end = end;
      duration = lasts;
      planned_duration = planned;
      scte35_out = option_map value_in_pair (attribute pairs (codes "SCTE35-OUT"));
      scte35_in = option_map value_in_pair (attribute pairs (codes "SCTE35-IN"));
      attributes = text;
    }))

abbrev after_end : List ℕ → List Pair → List ℕ → Option ℤ → Option ℤ → Outcome Said
after_end text pairs id start end = optional attribute_duration_of (attribute pairs (codes "DURATION")) >>= after_lasts text pairs id start end

abbrev after_start : List ℕ → List Pair → List ℕ → Option ℤ → Outcome Said
after_start text pairs id start = optional time_of (attribute pairs (codes "END-DATE")) >>= after_end text pairs id start

abbrev after_id : List ℕ → List Pair → List ℕ → Outcome Said
after_id text pairs id = optional time_of (attribute pairs (codes "START-DATE")) >>= after_start text pairs id

last_of_range : (text : List ℕ) (pairs : List Pair) (id : List ℕ) (start end : Option ℤ) (lasts : Option ℕ) → Only (HasText text) (after_lasts text pairs id start end lasts)
last_of_range text pairs id start end lasts = grind arith

range_text : (text : List ℕ) (pairs : List Pair) → Only (HasText text) (date_range_of text pairs)
range_text text pairs =
    only_then (HasText text) (required true (attribute pairs (codes "ID"))) (after_id text pairs)
    (λ id. only_then (HasText text) (optional time_of (attribute pairs (codes "START-DATE"))) (after_start text pairs id)
    (λ start. only_then (HasText text) (optional time_of (attribute pairs (codes "END-DATE"))) (after_end text pairs id start)
    (λ end. only_then (HasText text) (optional attribute_duration_of (attribute pairs (codes "DURATION"))) (after_lasts text pairs id start end) (last_of_range text pairs id start end))))

has_text : (rest : List ℕ) → Only (HasText rest) (date_range_said limited rest)
has_text rest = grind (arith, only_then, range_text)

-- ---- each tag

-- a date range is what its attributes say; of anything else nothing is said
abbrev IsRight : Said → Type 0
IsRight (date_range one) = IsSaidByAttributes one
IsRight _ = Unit {0}

right_said : (rest : List ℕ) (s : Said) → date_range_said limited rest ≡ Ok s → HasText rest s → IsRight s
right_said rest (date_range one) e h = ap (date_range_said limited) h ∙ e
right_said rest _ e h = absurd h

right_range : (rest : List ℕ) (o : Outcome Said) → date_range_said limited rest ≡ o → Only (HasText rest) o → Only IsRight o
right_range rest (Ok s) e h = right_said rest s e h
right_range rest (Err d) e h = tt

abbrev after_format : Parts → List Pair → List ℕ → List ℕ → Option ℕ → Option (List ℕ) → Outcome Said
after_format base pairs method reference iv format =
    uri_of base reference >>= λ resource.
    Ok (key (record {
      format = unwrap_or format (codes "identity");
      method = method;
      uri = resource;
      iv = iv;
      other_attributes = after_commas (carried pairs);
    }))

abbrev after_iv : Parts → List Pair → List ℕ → List ℕ → Option ℕ → Outcome Said
after_iv base pairs method reference iv = optional quoted_of (attribute pairs (codes "KEYFORMAT")) >>= after_format base pairs method reference iv

right_key : (base : Parts) (rest : List ℕ) → Only IsRight (key_said limited base rest)
right_key base rest = grind arith

abbrev after_byte_range : Parts → List ℕ → Option ByteRange → Outcome Said
after_byte_range base reference part = uri_of base reference >>= λ resource. Ok (init_section resource part)

abbrev after_uri : Parts → List Pair → List ℕ → Outcome Said
after_uri base pairs reference = optional init_section_byte_range (attribute pairs (codes "BYTERANGE")) >>= after_byte_range base reference

right_section : (base : Parts) (rest : List ℕ) → Only IsRight (init_section_said limited base rest)
right_section base rest = grind arith

right_tag : (base : Parts) (before : List Said) (name : Name) (rest : List ℕ) → Only IsRight (said_by_tag limited base before name rest)
right_tag base before version_tag rest = only_if IsRight (is_set the_version before) fault.Repeated (version_of rest >>= λ n. Ok (version n)) (only_then IsRight (version_of rest) (λ n. Ok (version n)) (λ n. tt))
right_tag base before target_tag rest = only_if IsRight (is_set the_target before) fault.Repeated (number_said rest >>= λ n. Ok (target n)) (only_then IsRight (number_said rest) (λ n. Ok (target n)) (λ n. tt))
right_tag base before sequence_tag rest =
    only_if IsRight (is_set the_sequence before) fault.Repeated (refuse_if (has is_media before) fault.Misplaced (number_said rest >>= λ n. Ok (sequence n))) (only_if IsRight (has is_media before) fault.Misplaced (number_said rest >>= λ n. Ok (sequence n)) (only_then IsRight (number_said rest) (λ n. Ok (sequence n)) (λ n. tt)))
right_tag base before discontinuity_sequence_tag rest =
    only_if IsRight (is_set the_discontinuity_sequence before) fault.Repeated (refuse_if (has is_media before || has is_discontinuity before) fault.Misplaced (number_said rest >>= λ n. Ok (discontinuity_sequence n)))
    (only_if IsRight (has is_media before || has is_discontinuity before) fault.Misplaced (number_said rest >>= λ n. Ok (discontinuity_sequence n)) (only_then IsRight (number_said rest) (λ n. Ok (discontinuity_sequence n)) (λ n. tt)))
right_tag base before type_tag rest = only_if IsRight (is_set the_type before) fault.Repeated (playlist_type_of rest >>= λ kind. Ok (playlist_type kind)) (only_then IsRight (playlist_type_of rest) (λ kind. Ok (playlist_type kind)) (λ kind. tt))
right_tag base before ended_tag rest = only_if IsRight (has is_ended before) fault.Repeated (Ok ended) tt
right_tag base before independent_tag rest = tt
right_tag base before frames_tag rest = tt
right_tag base before master_tag rest = tt
right_tag base before duration_tag rest =
    only_then IsRight (mended fault.BadDuration (duration_of (before_first is_comma rest))) (λ nanos. Ok (duration nanos (after_first is_comma rest))) (λ nanos. tt)
right_tag base before byte_range_tag rest = only_then IsRight (byte_range_of rest) (λ r. Ok (byte_range r.0 r.1)) (λ r. tt)
right_tag base before discontinuity_tag rest = only_if IsRight (passes (discontinuity_at before + 1)) fault.BadValue (Ok discontinuity) tt
right_tag base before key_tag rest = only_both IsRight (key_said limited base rest) (within_formats limited before) (right_key base rest) (λ s h. only_if IsRight (over limited.formats (length (keys_at (s ∷ before)))) fault.TooMany (Ok s) h)
right_tag base before init_section_tag rest = only_both IsRight (init_section_said limited base rest) (with_ivs before) (right_section base rest) (λ s h. only_if IsRight (list_any key_needs_iv (keys_at before)) fault.MapWithoutIv (Ok s) h)
right_tag base before time_tag rest = only_then IsRight (or_fault fault.BadTime (instant_of rest)) (λ t. Ok (time t)) (λ t. tt)
right_tag base before date_range_tag rest = right_range rest (date_range_said limited rest) refl (has_text rest)
right_tag base before unknown_tag rest = tt

-- ---- each line

right_uri : (base : Parts) (before : List Said) (reference : List ℕ) → Only IsRight (said_by_uri limited base before reference)
right_uri base before reference = grind arith

right_kind : (base : Parts) (before : List Said) (kind : Kind) → Only IsRight (said_by_kind limited base before kind)
right_kind base before ignored = tt
right_kind base before (uri reference) = right_uri base before reference
right_kind base before (tag name rest colon) = right_tag base before (name_of name colon) rest

right_line : (base : Parts) (before : List Said) (line : List ℕ) → Only IsRight (said_by limited base before line)
right_line base before line = grind (arith, only_if, right_kind)

-- ---- all lines

said_last : (list : List DateRange) (one : DateRange) → AreSaidByAttributes list → IsSaidByAttributes one → AreSaidByAttributes (list ++ one ∷ [])
said_last [] one h k = (k, tt)
said_last (x ∷ later) one h k = (h.0, said_last later one h.1 k)

one_said : (before : List Said) (s : Said) → AreSaidByAttributes (date_ranges_of before) → IsRight s → AreSaidByAttributes (date_ranges_of (s ∷ before))
one_said before (date_range one) h k = said_last (date_ranges_of before) one h k
one_said before _ h k = h

same_all : (a b : List Said) → (let r : Result (List Said) Fault = Ok a in r) ≡ Ok b → a ≡ b
same_all a b e = cc

next_said : (o : Outcome Said) (next : Said → Result (List Said) Fault) (before all : List Said) (n : ℕ) → AreSaidByAttributes (date_ranges_of before) → Only IsRight o
    → ((s : Said) → AreSaidByAttributes (date_ranges_of (s ∷ before)) → next s ≡ Ok all → AreSaidByAttributes (date_ranges_of all)) → at_line n o next ≡ Ok all → AreSaidByAttributes (date_ranges_of all)
next_said (Ok s) next before all n h k more f = more s (one_said before s h k) f
next_said (Err d) next before all n h k more f = absurd (cc)

pub all_said : (base : Parts) (lines : List (List ℕ)) (before all : List Said) → said_from (said_by limited base) before lines ≡ Ok all → AreSaidByAttributes (date_ranges_of before) → AreSaidByAttributes (date_ranges_of all)
all_said base [] before all e h = subst (λ s. AreSaidByAttributes (date_ranges_of s)) (same_all before all e) h
all_said base (line ∷ later) before all e h =
    next_said (said_by limited base before line) (λ said. said_from (said_by limited base) (said ∷ before) later) before all (length before + 1) h (right_line base before line)
    (λ s k f. all_said base later (s ∷ before) all f k) e
