-- Which break a segment is inside, or enters.
use Rattle.std.specs.Prelude.{ℕ, Bool, false, not, ◌&&◌, List, find, ℤ, Option, Some, None, option_map, is_none, if◌then◌else◌}
use Rattle.pod_store.specs.Pods.{Pod, total, pod_fits}
use Rattle.pod_store.specs.Store.{Store, pod_for, has_fitting_pod}
use Rattle.break_finder.specs.declared.why.Why.{Why}
use Rattle.break_finder.specs.declared.why.Why.TheVariants.{Filled, NotKnown, NoStart, NotSignalled, NotDecided, DoesNotFit, Waiting}
use Rattle.break_finder.specs.Signals.{is_break_leaving_signal}
use Rattle.break_finder.specs.declared.described.Described.{Described}
use Rattle.break_finder.specs.Breaks.{Break, said_of, is_signalled, break_end_of, is_before_break_end, is_not_past_break_end, is_near_break_start}
use Rattle.break_finder.specs.Known.{is_this_break}

-- ---- inside

abbrev pub is_inside_said : Option ℤ → ℕ → Pod → Option Described → Bool
is_inside_said None tolerance pod said = false
is_inside_said (Some instant) tolerance pod None = false
is_inside_said (Some instant) tolerance pod (Some said) = is_before_break_end instant tolerance (break_end_of said (total pod))

-- a segment at this instant is inside the break of this ID, which has this pod
abbrev pub is_inside : List Break → List ℕ → Option ℤ → ℕ → Pod → Bool
is_inside breaks id instant tolerance pod = is_inside_said instant tolerance pod (said_of breaks id)

-- ---- entering

-- what breaks are entered by: the tolerance, the target, whether the origin's segments have initialisation sections, and
-- the last break entered
pub record EntryLimits : Type 0 where
  pub tolerance : ℕ
  pub target_duration : ℕ
  pub with_init_sections : Bool
  pub last : Option (List ℕ)

-- the break is signalled, and the instant is near its start
abbrev pub starts_at : EntryLimits → ℤ → Described → Bool
starts_at m instant said = is_signalled said && is_near_break_start instant m.tolerance said.start

-- and it is before the end of the break, which lasts so long by its pod
abbrev pub is_within_break : EntryLimits → ℤ → Described → ℕ → Bool
is_within_break m instant said length = starts_at m instant said && is_not_past_break_end instant m.tolerance (break_end_of said length)

-- a segment at this instant enters the break, if it has this pod
abbrev pub can_enter : EntryLimits → ℤ → Break → Pod → Bool
can_enter m instant b pod = is_within_break m instant b.said (total pod) && pod_fits m.target_duration m.with_init_sections pod && not (is_this_break b.id m.last)

abbrev pub enters_with : EntryLimits → ℤ → Break → Option Pod → Bool
enters_with m instant b None = false
enters_with m instant b (Some pod) = can_enter m instant b pod

-- it is signalled, decided and fitting, the segment is near its start and before its end, and it isn't the
-- last one entered
abbrev pub enters_break : EntryLimits → Store → ℤ → Break → Bool
enters_break m store instant b = enters_with m instant b (pod_for store b.id)

abbrev pub id_of_break : Break → List ℕ
id_of_break b = b.id

-- the first known break that a segment at this instant enters
abbrev pub entered : EntryLimits → Store → List Break → Option ℤ → Option (List ℕ)
entered m store breaks None = None
entered m store breaks (Some instant) = option_map id_of_break (find (enters_break m store instant) breaks)

-- ---- why

-- why a known break that isn't filled isn't
abbrev pub why_break_said : Described → List ℕ → ℕ → Bool → Store → Why
why_break_said said id target with_init_sections store =
    if is_none said.start then NoStart
    else (if not (is_break_leaving_signal said.scte35_out) then NotSignalled
    else (if is_none (pod_for store id) then NotDecided
    else (if not (has_fitting_pod store id target with_init_sections) then DoesNotFit else Waiting)))

abbrev pub why_known : Option Described → List ℕ → ℕ → Bool → Store → Why
why_known None id target with_init_sections store = NotKnown
why_known (Some said) id target with_init_sections store = why_break_said said id target with_init_sections store

-- the first word that holds
abbrev pub why : List Break → List ℕ → ℕ → Bool → Store → Bool → Why
why breaks id target with_init_sections store filled = if filled then Filled else why_known (said_of breaks id) id target with_init_sections store
