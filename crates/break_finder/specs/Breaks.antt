-- What is known of a break, and where it ends.
use Rattle.std.specs.Prelude.{ℕ, Bool, true, false, ◌&&◌, List, find, ℤ, pos, ◌+ℤ◌, ◌-ℤ◌, int_le, int_lt, Option, Some, None, option_map, is_some, bytes_eq, if◌then◌else◌}
use Rattle.playlist_model.specs.declared.DateRange.{DateRange}
use Rattle.playlist_model.specs.LookBack.{or_earlier}
use Rattle.break_finder.specs.declared.described.Described.{Described}
use Rattle.break_finder.specs.Signals.{break_signal_of_text, is_break_leaving_signal, is_break_returning_signal, break_signal_nanos}

-- a break with the first value of each of its attributes
pub record Break : Type 0 where
  pub id : List ℕ
  pub said : Described

abbrev pub is_named : List ℕ → Break → Bool
is_named id b = bytes_eq id b.id

abbrev pub break_of : List Break → List ℕ → Option Break
break_of breaks id = find (is_named id) breaks

abbrev pub said_in : Break → Described
said_in b = b.said

-- what is said of the break of an ID, if it is known
abbrev pub said_of : List Break → List ℕ → Option Described
said_of breaks id = option_map said_in (break_of breaks id)

abbrev pub nothing_said_of_break : Described
nothing_said_of_break = record { start = None; end = None; duration = None; planned_duration = None; scte35_out = None; scte35_in = None }

-- what is said with one tag more: a value that stands, stays
abbrev pub described_break_and_tag : Described → DateRange → Described
described_break_and_tag said tag = record {
  start = or_earlier said.start tag.start;
  end = or_earlier said.end tag.end;
  duration = or_earlier said.duration tag.duration;
  planned_duration = or_earlier said.planned_duration tag.planned_duration;
  scte35_out = or_earlier said.scte35_out (option_map break_signal_of_text tag.scte35_out);
  scte35_in = or_earlier said.scte35_in (option_map break_signal_of_text tag.scte35_in);
}

-- ---- what a break says

abbrev pub is_signalled : Described → Bool
is_signalled said = is_some said.start && is_break_leaving_signal said.scte35_out

-- where a break ends: at an instant; or it is closed, and no segment more is inside
pub data End : Type 0 where
  at : ℤ → End
  closed : End

abbrev pub break_end_after : Option ℤ → Option ℕ → Option End
break_end_after (Some start) (Some duration) = Some (at (start +ℤ pos duration))
break_end_after (Some start) None = None
break_end_after None duration = None

-- the first end that is known: END-DATE; START-DATE with DURATION; a valid SCTE35-IN; START-DATE with
-- PLANNED-DURATION; with the duration of its splice section; with that of its pod
abbrev pub break_end_of : Described → ℕ → Option End
break_end_of said length =
    or_earlier (option_map at said.end)
    (or_earlier (break_end_after said.start said.duration)
    (or_earlier (if is_break_returning_signal said.scte35_in then Some closed else None)
    (or_earlier (break_end_after said.start said.planned_duration)
    (or_earlier (break_end_after said.start (break_signal_nanos said.scte35_out))
    (break_end_after said.start (Some length))))))

-- a segment at this instant is before the end; none is before the end of a closed break
abbrev pub is_before_break_end : ℤ → ℕ → Option End → Bool
is_before_break_end instant tolerance (Some (at end)) = int_lt (instant +ℤ pos tolerance) end
is_before_break_end instant tolerance (Some closed) = false
is_before_break_end instant tolerance None = false

-- a closed break, or one without an end, can still be entered
abbrev pub is_not_past_break_end : ℤ → ℕ → Option End → Bool
is_not_past_break_end instant tolerance (Some (at end)) = int_lt (instant +ℤ pos tolerance) end
is_not_past_break_end instant tolerance (Some closed) = true
is_not_past_break_end instant tolerance None = true

-- the instant and the start differ by at most the tolerance
abbrev pub is_near_break_start : ℤ → ℕ → Option ℤ → Bool
is_near_break_start instant tolerance (Some start) = int_le (instant -ℤ start) (pos tolerance) && int_le (start -ℤ instant) (pos tolerance)
is_near_break_start instant tolerance None = false
