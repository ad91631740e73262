-- A stitched list from a place on, without the stretches before it.
use Rattle.std.specs.Prelude.{ℕ, ◌+◌, ◌-◌, nat_le, List, [], ◌∷◌, length, if◌then◌else◌}
use Rattle.stitcher.specs.declared.stitched_list.Stretch.{Stretch}

-- how many stretches in front end within so many items, and how many items are still to be passed over after those
abbrev pub stretches_within : ℕ → List Stretch → ℕ
stretches_within count [] = 0
stretches_within count (s ∷ later) = if nat_le (length s.ads + length s.kept.now) count then stretches_within (count - length s.ads - length s.kept.now) later + 1 else 0

abbrev pub items_left_from_stretches : ℕ → List Stretch → ℕ
items_left_from_stretches count [] = count
items_left_from_stretches count (s ∷ later) = if nat_le (length s.ads + length s.kept.now) count then items_left_from_stretches (count - length s.ads - length s.kept.now) later else count
