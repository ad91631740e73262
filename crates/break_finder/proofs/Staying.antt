-- Until when segments stay in a break is when they are inside it.
use Rattle.std.proofs.Common.{◌≡◌, ℕ, ℤ, Some, None, arith}
use Rattle.std.specs.Prelude.{Option, option_map}
use Rattle.pod_store.specs.Pods.{Pod, total}
use Rattle.break_finder.specs.declared.described.Described.{Described}
use Rattle.break_finder.specs.declared.knowledge.Stay.{Stay}
use Rattle.break_finder.specs.Breaks.{break_end_of}
use Rattle.break_finder.specs.Ends.{end_view}
use Rattle.break_finder.specs.Entering.{is_inside_said}
use Rattle.break_finder.specs.Stays.{stays_at}

-- in one of which this is said
pub stay_known : (stay : Stay) (tolerance : ℕ) (pod : Pod) (said : Described) (sum : ℕ) → stay.tolerance ≡ tolerance → sum ≡ total pod → option_map end_view stay.end ≡ break_end_of said sum
    → (instant : Option ℤ) → stays_at stay instant ≡ is_inside_said instant tolerance pod (Some said)
stay_known stay tolerance pod said sum t s e instant = grind arith

-- in none
pub stay_unknown : (stay : Stay) (tolerance : ℕ) (pod : Pod) → stay.end ≡ None → (instant : Option ℤ) → stays_at stay instant ≡ is_inside_said instant tolerance pod None
stay_unknown stay tolerance pod e instant = grind arith
