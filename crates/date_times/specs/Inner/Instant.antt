-- What proofs and inner functions say with the definitions of `Instant`.
use Rattle.std.specs.Prelude.{ℕ, ℤ, Bool, ◌&&◌, ◌||◌, ◌==◌, List, take, drop, length, slice_index, Option, Some, None, if◌then◌else◌}
use Rattle.spec_words.specs.Bytes.{colon}
use Rattle.date_times.specs.Instant.{second_fraction_length, is_second_fraction, fraction_nanos, zone_offset_of}

-- ---- The parts of a time text

-- `hh:mm`, `hhmm` or `hh`, whatever the bytes but the colon
abbrev pub has_offset_form : List ℕ → Bool
has_offset_form text = length text == 2 || length text == 4 || (length text == 5 && slice_index text 2 == colon)

-- what stands after the hours and a colon
abbrev pub zone_offset_minutes : List ℕ → List ℕ
zone_offset_minutes text = if length text == 5 && slice_index text 2 == colon then drop 3 text else drop 2 text

-- both, if there is an offset
abbrev pub with_fraction : ℕ → Option ℤ → Option (ℕ × ℤ)
with_fraction nanos None = None
with_fraction nanos (Some offset) = Some (nanos, offset)

-- the nanoseconds of a second, and the seconds east of UTC, that stand after a time of day
abbrev pub second_end_of : List ℕ → Option (ℕ × ℤ)
second_end_of text =
    let len = second_fraction_length text in
    if is_second_fraction len then with_fraction (fraction_nanos (drop 1 (take len text))) (zone_offset_of (drop len text)) else None
