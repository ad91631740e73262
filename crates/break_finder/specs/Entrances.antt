-- The breaks that can be entered while the store, the target and the initialisation sections of segments stay as they are.
use Rattle.std.specs.Prelude.{◌≡◌, ℕ, Bool, true, false, not, ◌&&◌, List, [], ◌∷◌, find, ℤ, int_le, int_lt, Option, Some, None, option_map, if◌then◌else◌}
use Rattle.pod_store.specs.Pods.{Pod, total, pod_fits}
use Rattle.pod_store.specs.Store.{Store, pod_for}
use Rattle.break_finder.specs.Signals.{is_break_leaving_signal}
use Rattle.break_finder.specs.Breaks.{Break, End, break_end_of, is_not_past_break_end, is_near_break_start}
use Rattle.break_finder.specs.Known.{is_this_break}

-- a break that is signalled and decided, and whose pod fits
pub record Entrance : Type 0 where
  pub id : List ℕ
  pub start : ℤ
  pub end : Option End

abbrev pub entrance_id : Entrance → List ℕ
entrance_id e = e.id

-- of a break that starts at this instant and has this pod
abbrev pub entrance_at : ℕ → Bool → Break → ℤ → Pod → Option Entrance
entrance_at target with_init_sections b start pod =
    if is_break_leaving_signal b.said.scte35_out && pod_fits target with_init_sections pod
    then Some (record { id = b.id; start = start; end = break_end_of b.said (total pod) })
    else None

abbrev pub entrance_with : ℕ → Bool → Break → Option ℤ → Option Pod → Option Entrance
entrance_with target with_init_sections b None pod = None
entrance_with target with_init_sections b (Some start) None = None
entrance_with target with_init_sections b (Some start) (Some pod) = entrance_at target with_init_sections b start pod

abbrev pub break_entrance_of : ℕ → Bool → Break → Option Pod → Option Entrance
break_entrance_of target with_init_sections b pod = entrance_with target with_init_sections b b.said.start pod

abbrev pub and_later : Option Entrance → List Entrance → List Entrance
and_later None later = later
and_later (Some e) later = e ∷ later

-- those of these breaks, in their order
abbrev pub entrances_in : ℕ → Bool → Store → List Break → List Entrance
entrances_in target with_init_sections store [] = []
entrances_in target with_init_sections store (b ∷ later) =
    and_later (break_entrance_of target with_init_sections b (pod_for store b.id)) (entrances_in target with_init_sections store later)

-- a segment at this instant enters the break, after this last one entered
abbrev pub is_break_entered : ℕ → Option (List ℕ) → ℤ → Entrance → Bool
is_break_entered tolerance last instant e =
    is_near_break_start instant tolerance (Some e.start) && is_not_past_break_end instant tolerance e.end && not (is_this_break e.id last)

-- the ID of the first that is
abbrev pub first_entrance : ℕ → Option (List ℕ) → ℤ → List Entrance → Option (List ℕ)
first_entrance tolerance last instant found = option_map entrance_id (find (is_break_entered tolerance last instant) found)

-- ---- spans

-- time from an instant up to another, with the first break that is entered in it, and the first that is another; and their places
-- among those that can be entered, if they are known
pub record BreakSpan : Type 0 where
  pub from : ℤ
  pub to : ℤ
  pub first : Option (List ℕ)
  pub second : Option (List ℕ)
  pub first_place : Option ℕ
  pub second_place : Option ℕ

abbrev pub is_within : ℤ → ℤ → ℤ → Bool
is_within from to instant = int_le from instant && int_lt instant to

abbrev pub is_in : BreakSpan → ℤ → Bool
is_in span instant = is_within span.from span.to instant

abbrev pub is_last : Option (List ℕ) → Option (List ℕ) → Bool
is_last None last = false
is_last (Some id) last = is_this_break id last

-- the first, or if it is the last one entered the second
abbrev pub break_entered_but_last : Option (List ℕ) → Option (List ℕ) → Option (List ℕ) → Option (List ℕ)
break_entered_but_last first second last = if is_last first last then second else first

-- at each instant in the span it tells which of these is entered, after whichever was entered last
abbrev pub TellsEntrances : ℕ → List Entrance → BreakSpan → Type 0
TellsEntrances tolerance found span =
    (instant : ℤ) (last : Option (List ℕ)) → is_in span instant ≡ true → first_entrance tolerance last instant found ≡ break_entered_but_last span.first span.second last

-- ---- the breaks that can be entered, with the tolerance by which they are

pub record Entrances : Type 0 where
  pub tolerance : ℕ
  pub found : List Entrance
