-- What one line says by itself, after RFC 8216, section 4.3.
use Rattle.std.specs.Prelude.{ℕ, ◌+◌, ◌^◌, Bool, true, false, not, ◌||◌, ◌==◌, nat_lt, List, length, codes, ℤ, Option, Some, None, Result, Ok, Err, bytes_eq, unwrap_or, option_map, if◌then◌else◌}
use Rattle.std.specs.List.{list_any, before_first, after_first}
use Rattle.spec_words.specs.Bytes.{at_sign}
use Rattle.url.specs.Parts.{Parts}
use Rattle.spec_words.specs.Outcomes.{◌>>=◌, or_fault, mended, refuse_if, optional}
use Rattle.fixed_duration.specs.Duration.{duration_of}
use Rattle.attr_list.specs.Attributes.{Pair, is_comma, attributes_of, attribute}
use Rattle.attr_list.specs.Numbers.{decimal_of, hex_of}
use Rattle.playlist_model.specs.Uri.{resolved}
use Rattle.playlist_model.specs.Carried.{carried, after_commas}
use Rattle.date_times.specs.Instant.{instant_of}
use Rattle.playlist_model.specs.declared.FaultKind.{FaultKind}
use Rattle.playlist_model.specs.declared.FaultKind.TheVariants as fault
use Rattle.playlist_model.specs.declared.PlaylistKind.{PlaylistKind}
use Rattle.playlist_model.specs.declared.PlaylistKind.TheVariants.{Event, Vod}
use Rattle.playlist_model.specs.declared.Key.{Key}
use Rattle.playlist_model.specs.declared.KeyTag.{KeyTag}
use Rattle.playlist_model.specs.declared.KeyTag.TheVariants.{End, Set}
use Rattle.playlist_model.specs.declared.ByteRange.{ByteRange}
use Rattle.playlist_model.specs.declared.DateRange.{DateRange}

-- ---- the tags (4.3)

pub data Name : Type 0 where
  version_tag : Name
  target_tag : Name
  sequence_tag : Name
  discontinuity_sequence_tag : Name
  type_tag : Name
  ended_tag : Name
  independent_tag : Name
  frames_tag : Name
  master_tag : Name
  duration_tag : Name
  byte_range_tag : Name
  discontinuity_tag : Name
  key_tag : Name
  init_section_tag : Name
  time_tag : Name
  date_range_tag : Name
  unknown_tag : Name

-- what a reader keeps to: how many bytes, attributes in a tag, key formats in force and segments it
-- takes. The denotation keeps to nothing
pub record Reader : Type 0 where
  pub bytes : Option ℕ
  pub attributes : Option ℕ
  pub formats : Option ℕ
  pub segments : Option ℕ

-- what a line says
pub data Said : Type 0 where
  nothing : Said
  version : ℕ → Said
  target : ℕ → Said
  sequence : ℕ → Said
  discontinuity_sequence : ℕ → Said
  playlist_type : PlaylistKind → Said
  ended : Said
  independent : Said
  duration : ℕ → List ℕ → Said
  byte_range : ℕ → Option ℕ → Said
  discontinuity : Said
  no_keys : Said
  key : Key → Said
  init_section : List ℕ → Option ByteRange → Said
  time : ℤ → Said
  date_range : DateRange → Said
  media : List ℕ → Said

-- a key tag (4.3.2.4)
abbrev pub key_tag_said : KeyTag → Said
key_tag_said End = no_keys
key_tag_said (Set k) = key k

-- what a line says, or its fault
abbrev pub Outcome : Type 0 → Type 0
Outcome A = Result A FaultKind

-- ---- the parts of a line

-- a decimal-integer (4.2)
abbrev pub number_said : List ℕ → Outcome ℕ
number_said rest = or_fault fault.BadValue (decimal_of rest)

-- EXT-X-VERSION (4.3.1.2): from 1 to 7, which RFC 8216 describes
abbrev pub version_of : List ℕ → Outcome ℕ
version_of rest =
    or_fault fault.BadVersion (decimal_of rest) >>= λ v. refuse_if (v == 0 || nat_lt 7 v) fault.Version (Ok v)

-- EXT-X-PLAYLIST-TYPE (4.3.3.5)
abbrev pub playlist_type_of : List ℕ → Outcome PlaylistKind
playlist_type_of rest =
    if bytes_eq rest (codes "EVENT") then Ok Event
    else (if bytes_eq rest (codes "VOD") then Ok Vod else Err fault.BadValue)

-- EXTINF (4.3.2.1): the duration up to the first comma, and the title after it
abbrev pub duration_said : List ℕ → Outcome Said
duration_said rest =
    mended fault.BadDuration (duration_of (before_first is_comma rest)) >>= λ nanos.
    Ok (duration nanos (after_first is_comma rest))

-- whether the end of a byte range has 64 bits (4.3.2.2)
abbrev pub byte_range_end_fits : ℕ → ℕ → Bool
byte_range_end_fits length offset = nat_lt (length + offset) (2 ^ 64)

abbrev pub is_at_sign : ℕ → Bool
is_at_sign b = b == at_sign

abbrev pub stated_byte_range : ℕ → ℕ → Outcome (ℕ × Option ℕ)
stated_byte_range length offset = refuse_if (not (byte_range_end_fits length offset)) fault.BadRange (Ok (length, Some offset))

-- EXT-X-BYTERANGE (4.3.2.2), `n[@o]`: the length, and the offset if it is stated
abbrev pub byte_range_of : List ℕ → Outcome (ℕ × Option ℕ)
byte_range_of rest =
    or_fault fault.BadRange (decimal_of (before_first is_at_sign rest)) >>= λ length.
    if list_any is_at_sign rest
    then or_fault fault.BadRange (decimal_of (after_first is_at_sign rest)) >>= stated_byte_range length
    else Ok (length, None)

-- whether so many are over the limit, if there is one
abbrev pub over : Option ℕ → ℕ → Bool
over None n = false
over (Some most) n = nat_lt most n

-- ---- attributes (4.2)

abbrev pub attributes : Reader → List ℕ → Outcome (List Pair)
attributes reader rest = mended fault.BadAttributes (attributes_of reader.attributes rest)

-- the value of an attribute that has to stand in quotes, or has to stand without
abbrev pub value_if : Bool → Bool → List ℕ → Outcome (List ℕ)
value_if wanted quoted value = refuse_if (if wanted then not quoted else quoted) fault.BadAttributes (Ok value)

abbrev pub required : Bool → Option Pair → Outcome (List ℕ)
required wanted None = Err fault.MissingAttribute
required wanted (Some pair) = value_if wanted pair.quoted pair.value

-- the IV of EXT-X-KEY (4.3.2.4), a hexadecimal-sequence
abbrev pub iv_of : Pair → Outcome ℕ
iv_of pair = value_if false pair.quoted pair.value >>= λ value. or_fault fault.BadAttributes (hex_of value)

abbrev pub quoted_of : Pair → Outcome (List ℕ)
quoted_of pair = value_if true pair.quoted pair.value

-- the resource that a reference names (4.1)
abbrev pub uri_of : Parts → List ℕ → Outcome (List ℕ)
uri_of base reference = or_fault fault.BadUri (resolved base reference)

-- EXT-X-KEY of a METHOD other than NONE (4.3.2.4)
abbrev pub set_key : Parts → List Pair → List ℕ → Outcome Said
set_key base pairs method =
    required true (attribute pairs (codes "URI")) >>= λ reference.
    optional iv_of (attribute pairs (codes "IV")) >>= λ iv.
    optional quoted_of (attribute pairs (codes "KEYFORMAT")) >>= λ format.
    uri_of base reference >>= λ resource.
    Ok (key (record {
      format = unwrap_or format (codes "identity");
      method = method;
      uri = resource;
      iv = iv;
      other_attributes = after_commas (carried pairs);
    }))

-- EXT-X-KEY (4.3.2.4)
abbrev pub key_said : Reader → Parts → List ℕ → Outcome Said
key_said reader base rest =
    attributes reader rest >>= λ pairs.
    required false (attribute pairs (codes "METHOD")) >>= λ method.
    if bytes_eq method (codes "NONE") then Ok no_keys else set_key base pairs method

-- the BYTERANGE of EXT-X-MAP (4.3.2.5), which begins at 0 if it states no offset
abbrev pub init_section_byte_range : Pair → Outcome ByteRange
init_section_byte_range pair =
    quoted_of pair >>= λ value. byte_range_of value >>= λ byte_range.
    refuse_if (not (byte_range_end_fits byte_range.0 (unwrap_or byte_range.1 0))) fault.BadRange
    (Ok (record { length = byte_range.0; offset = unwrap_or byte_range.1 0 }))

-- EXT-X-MAP (4.3.2.5)
abbrev pub init_section_said : Reader → Parts → List ℕ → Outcome Said
init_section_said reader base rest =
    attributes reader rest >>= λ pairs.
    required true (attribute pairs (codes "URI")) >>= λ reference.
    optional init_section_byte_range (attribute pairs (codes "BYTERANGE")) >>= λ byte_range.
    uri_of base reference >>= λ resource.
    Ok (init_section resource byte_range)

abbrev pub time_of : Pair → Outcome ℤ
time_of pair = or_fault fault.BadTime (instant_of pair.value)

abbrev pub attribute_duration_of : Pair → Outcome ℕ
attribute_duration_of pair = mended fault.BadDuration (duration_of pair.value)

abbrev pub value_in_pair : Pair → List ℕ
value_in_pair pair = pair.value

-- EXT-X-DATERANGE (4.3.2.7; 4.3.2.7.1 for SCTE35-OUT and SCTE35-IN): what its attributes say, beside its whole text
abbrev pub date_range_of : List ℕ → List Pair → Outcome Said
date_range_of text pairs =
    required true (attribute pairs (codes "ID")) >>= λ id.
    optional time_of (attribute pairs (codes "START-DATE")) >>= λ start.
    optional time_of (attribute pairs (codes "END-DATE")) >>= λ end.
    optional attribute_duration_of (attribute pairs (codes "DURATION")) >>= λ duration.
    optional attribute_duration_of (attribute pairs (codes "PLANNED-DURATION")) >>= λ planned.
    Ok (date_range (record {
      id = id;
      start = start;
      end = end;
      duration = duration;
      planned_duration = planned;
      scte35_out = option_map value_in_pair (attribute pairs (codes "SCTE35-OUT"));
      scte35_in = option_map value_in_pair (attribute pairs (codes "SCTE35-IN"));
      attributes = text;
    }))

abbrev pub date_range_said : Reader → List ℕ → Outcome Said
date_range_said reader rest = attributes reader rest >>= date_range_of rest
