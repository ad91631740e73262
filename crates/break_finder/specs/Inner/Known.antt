-- What proofs and inner functions say with the definitions of `Known`.
use Rattle.break_finder.specs.Known.{Accepted, is_tagged_or_carried, break_said}
use Rattle.std.specs.Prelude.{◌≡◌, ℕ, Bool, List, [], ◌∷◌, filter, fold, Option, bytes_eq, if◌then◌else◌}
use Rattle.playlist_model.specs.declared.DateRange.{DateRange}
use Rattle.break_finder.specs.Breaks.{Break, described_break_and_tag}

abbrev pub break_stands : List DateRange → Option (List ℕ) → Break → Bool
break_stands date_ranges carried b = is_tagged_or_carried date_ranges carried b.id

-- ---- the same, tag by tag

-- a tag of a break that is there says more of it; another one is new, and stands last
abbrev pub with_tag : List Break → DateRange → List Break
with_tag [] tag = break_said tag.id (tag ∷ []) ∷ []
with_tag (b ∷ later) tag =
    if bytes_eq tag.id b.id then record { id = b.id; said = described_break_and_tag b.said tag } ∷ later else b ∷ with_tag later tag

abbrev pub walked : Accepted → List Break → List Break
walked refresh breaks = fold with_tag (filter (break_stands refresh.playlist.date_ranges refresh.carried) breaks) refresh.playlist.date_ranges

-- ---- tags that say nothing new

-- there is one tag for each break, in their order, which says nothing of it that isn't said already
abbrev pub TagsSayNothingNew : List Break → List DateRange → Type 0
TagsSayNothingNew [] [] = Unit {0}
TagsSayNothingNew [] (tag ∷ tags) = ⊥
TagsSayNothingNew (b ∷ breaks) [] = ⊥
TagsSayNothingNew (b ∷ breaks) (tag ∷ tags) = (b.id ≡ tag.id) × (described_break_and_tag b.said tag ≡ b.said) × TagsSayNothingNew breaks tags
