-- The first break that a segment enters is the first entrance that it takes.
use Rattle.std.proofs.Common.{◌≡◌, Bool, cond, ◌&&◌, List, [], ◌∷◌, refl, Some, None, arith}
use Rattle.std.specs.Prelude.{ℤ, find, option_map}
use Rattle.pod_store.specs.Store.{Store}
use Rattle.break_finder.specs.Breaks.{Break}
use Rattle.break_finder.specs.Entering.{EntryLimits, enters_break, id_of_break}
use Rattle.break_finder.specs.Entrances.{Entrance, and_later, entrances_in, is_break_entered, first_entrance}

one_taken : (m : EntryLimits) (instant : ℤ) (e : Entrance) (c : Bool) (later : List Entrance) → first_entrance m.tolerance m.last instant (and_later (cond c (Some e) None) later) ≡ cond (c && is_break_entered m.tolerance m.last instant e) (Some e.id) (first_entrance m.tolerance m.last instant later)
one_taken m instant e c later = grind arith

pub first_entered : (m : EntryLimits) (store : Store) (breaks : List Break) (instant : ℤ) → first_entrance m.tolerance m.last instant (entrances_in m.target_duration m.with_init_sections store breaks) ≡ option_map id_of_break (find (enters_break m store instant) breaks)
first_entered m store [] instant = refl
first_entered m store (b ∷ later) instant = grind (arith, first_entered m store later instant)
