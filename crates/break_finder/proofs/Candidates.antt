-- A known break that starts far from an instant is not entered there.
use Rattle.std.proofs.Common.{◌≡◌, ℕ, Bool, true, false, cond, List, refl, Some, None, arith}
use Rattle.std.specs.Prelude.{Option, ℤ}
use Rattle.pod_store.specs.Pods.{Pod}
use Rattle.break_finder.specs.Breaks.{Break, is_near_break_start}
use Rattle.break_finder.specs.Entrances.{Entrance, entrance_with, break_entrance_of}
use Rattle.break_finder.specs.Inner.Entrances.{is_entered_if}

far_at : (tolerance : ℕ) (last : Option (List ℕ)) (instant : ℤ) (e : Entrance) → is_near_break_start instant tolerance (Some e.start) ≡ false → (c : Bool) → is_entered_if tolerance last instant (cond c (Some e) None) ≡ false
far_at tolerance last instant e far true = rw far refl
far_at tolerance last instant e far false = refl

far_with : (tolerance : ℕ) (last : Option (List ℕ)) (instant : ℤ) (target : ℕ) (with_init_sections : Bool) (b : Break) (start : Option ℤ) (pod : Option Pod)
    → is_near_break_start instant tolerance start ≡ false → is_entered_if tolerance last instant (entrance_with target with_init_sections b start pod) ≡ false
far_with tolerance last instant target with_init_sections b start pod far = grind (arith, far_at)

pub far_off : (tolerance : ℕ) (last : Option (List ℕ)) (instant : ℤ) (target : ℕ) (with_init_sections : Bool) (b : Break) (pod : Option Pod)
    → is_near_break_start instant tolerance b.said.start ≡ false → is_entered_if tolerance last instant (break_entrance_of target with_init_sections b pod) ≡ false
far_off tolerance last instant target with_init_sections b pod far = grind (arith, far_with)
