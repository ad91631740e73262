-- What the attributes of a date range have to be, one by one (RFC 8216, section 4.3.2.7).
use Rattle.std.specs.Prelude.{Bool, false, ◌&&◌, List, codes, Option, Some, None, is_some, is_ok}
use Rattle.fixed_duration.specs.Duration.{duration_of}
use Rattle.attr_list.specs.Attributes.{Pair, attribute}
use Rattle.date_times.specs.Instant.{instant_of}
use Rattle.writable.specs.Fitting.{if_some}

-- an ID in quotes
abbrev pub is_quoted_id : Option Pair → Bool
is_quoted_id None = false
is_quoted_id (Some pair) = pair.quoted

abbrev pub written_attribute_says_time : Pair → Bool
written_attribute_says_time pair = is_some (instant_of pair.value)

abbrev pub written_attribute_says_duration : Pair → Bool
written_attribute_says_duration pair = is_ok (duration_of pair.value)

abbrev pub is_written_date_range : List Pair → Bool
is_written_date_range pairs =
    is_quoted_id (attribute pairs (codes "ID"))
    && (if_some written_attribute_says_time (attribute pairs (codes "START-DATE"))
    && (if_some written_attribute_says_time (attribute pairs (codes "END-DATE"))
    && (if_some written_attribute_says_duration (attribute pairs (codes "DURATION"))
    && if_some written_attribute_says_duration (attribute pairs (codes "PLANNED-DURATION")))))
