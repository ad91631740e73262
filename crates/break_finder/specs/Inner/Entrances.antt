-- What proofs and inner functions say with the definitions of `Entrances`.
use Rattle.break_finder.specs.Entrances.{Entrance, break_entered_but_last, is_break_entered}
use Rattle.std.specs.Prelude.{◌≡◌, ◌++◌, ℕ, Bool, false, ◌&&◌, List, length, ℤ, Option, Some, None}
use Rattle.std.specs.Option.{option_or}
use Rattle.break_finder.specs.Breaks.{is_not_past_break_end, is_near_break_start}

-- ---- spans

-- a segment at this instant enters the break, whichever was entered last
abbrev pub is_enterable : ℕ → ℤ → Entrance → Bool
is_enterable tolerance instant e = is_near_break_start instant tolerance (Some e.start) && is_not_past_break_end instant tolerance e.end

-- of breaks with this first and first other, and later ones with those, the first other
abbrev pub second_break_entered : Option (List ℕ) → Option (List ℕ) → Option (List ℕ) → Option (List ℕ) → Option (List ℕ)
second_break_entered None second later_first later_second = later_second
second_break_entered (Some id) second later_first later_second = option_or second (break_entered_but_last later_first later_second (Some id))

-- the first of these is at this place of a list, and the others follow it
abbrev pub StandAt : List Entrance → ℕ → List Entrance → Type 0
StandAt found place list = (front back : List Entrance) × (found ≡ front ++ (list ++ back)) × (length front ≡ place)

-- ---- a break that may be none to enter

-- it can be entered, and a segment at this instant enters it, after this last one entered
abbrev pub is_entered_if : ℕ → Option (List ℕ) → ℤ → Option Entrance → Bool
is_entered_if tolerance last instant None = false
is_entered_if tolerance last instant (Some e) = is_break_entered tolerance last instant e
