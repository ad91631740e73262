-- What can be written: texts, durations, keys, initialisation sections and date ranges (RFC 8216, sections 4.2 and 4.3).
use Rattle.std.specs.Prelude.{ℕ, ◌^◌, Bool, true, false, not, ◌&&◌, nat_lt, List, codes, Option, Some, None, Ok, bytes_eq, is_none}
use Rattle.std.specs.List.{list_any, list_all}
use Rattle.std.specs.Str.{is_utf8}
use Rattle.attr_list.specs.Attributes.{is_value}
use Rattle.playlist_model.specs.Lines.{has_control}
use Rattle.playlist_model.specs.Uri.{has_scheme}
use Rattle.playlist_model.specs.Carried.{are_others}
use Rattle.playlist_model.specs.LookBack.{are_sorted}
use Rattle.playlist_model.specs.Said.{Said, date_range, Outcome, byte_range_end_fits, date_range_said}
use Rattle.playlist_model.specs.Reading.{limited, key_needs_iv}
use Rattle.playlist_model.specs.declared.Key.{Key}
use Rattle.playlist_model.specs.declared.ByteRange.{ByteRange}
use Rattle.playlist_model.specs.declared.InitSection.{InitSection}

-- what is there passes the test
abbrev pub if_some : {A : Type 0} → (A → Bool) → Option A → Bool
if_some test None = true
if_some test (Some x) = test x

-- ---- texts

-- no control character, so that it stands on a line
abbrev pub is_clean : List ℕ → Bool
is_clean text = is_utf8 text && not (has_control text)

-- an attribute's value: in quotes it holds no quote; without quotes it isn't empty and holds no comma,
-- space or quote
abbrev pub value_fits : Bool → List ℕ → Bool
value_fits quoted value = is_clean value && is_value quoted value

-- a whole URI on a line of its own
abbrev pub uri_fits : List ℕ → Bool
uri_fits uri = is_clean uri && has_scheme uri

-- a whole URI in quotes
abbrev pub quoted_uri_fits : List ℕ → Bool
quoted_uri_fits uri = value_fits true uri && has_scheme uri

-- a byte range ends below 2^64
abbrev pub byte_range_fits : ByteRange → Bool
byte_range_fits byte_range = byte_range_end_fits byte_range.length byte_range.offset

-- below 1,000,000 s
abbrev pub duration_fits : ℕ → Bool
duration_fits nanos = nat_lt nanos (10 ^ 15)

-- ---- keys (4.3.2.4)

abbrev pub iv_is_writable : ℕ → Bool
iv_is_writable iv = nat_lt iv (2 ^ 128)

abbrev pub method_fits : List ℕ → Bool
method_fits method = value_fits false method && not (bytes_eq method (codes "NONE"))

-- attributes without a meaning of their own, each after a comma
abbrev pub other_attributes_are_writable : List ℕ → Bool
other_attributes_are_writable text = is_clean text && are_others text

abbrev pub key_is_writable : Key → Bool
key_is_writable k =
    value_fits true k.format && method_fits k.method && quoted_uri_fits k.uri && if_some iv_is_writable k.iv
    && other_attributes_are_writable k.other_attributes

-- sorted by format, with one key for each
abbrev pub keys_are_writable : List Key → Bool
keys_are_writable keys = list_all key_is_writable keys && are_sorted keys

-- a segment's keys are those that take effect, so that of the format `identity` has an IV (5.2)
abbrev pub writable_key_states_iv : Key → Bool
writable_key_states_iv k = not (bytes_eq k.format (codes "identity") && is_none k.iv)

abbrev pub effective_keys_fit : List Key → Bool
effective_keys_fit keys = keys_are_writable keys && list_all writable_key_states_iv keys

-- ---- initialisation sections (4.3.2.5)

abbrev pub init_section_fits : InitSection → Bool
init_section_fits s =
    quoted_uri_fits s.uri && if_some byte_range_fits s.byte_range && keys_are_writable s.keys && not (list_any key_needs_iv s.keys)

-- ---- date ranges (4.3.2.7)

abbrev pub says_date_range : Outcome Said → Bool
says_date_range (Ok (date_range r)) = true
says_date_range _ = false

-- read with the limit of 64 attributes
abbrev pub date_range_fits : List ℕ → Bool
date_range_fits text = is_clean text && says_date_range (date_range_said limited text)
