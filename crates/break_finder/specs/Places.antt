-- The places of breaks in the list of those that can be entered: two IDs there are told apart by where they stand.
use Rattle.std.specs.Prelude.{◌≡◌, ℕ, List, map, Option, Some, None, bytes_eq}
use Rattle.std.specs.List.{IsDistinct, slice_get}
use Rattle.break_finder.specs.declared.spans.EnteredBreak.{EnteredBreak}
use Rattle.break_finder.specs.Entrances.{BreakSpan, Entrance, entrance_id}

-- no two of them have one ID
abbrev pub AreApart : List Entrance → Type 0
AreApart found = IsDistinct bytes_eq (map entrance_id found)

-- the break of this ID is at this place
abbrev pub IsAt : List Entrance → ℕ → Option (List ℕ) → Type 0
IsAt found place id = (e : Entrance) × (slice_get found place ≡ Some e) × (id ≡ Some e.id)

-- it is at this place, if one is named
abbrev pub IsPlacedAt : List Entrance → Option ℕ → Option (List ℕ) → Type 0
IsPlacedAt found None id = Unit {0}
IsPlacedAt found (Some place) id = IsAt found place id

abbrev pub entered_id : EnteredBreak → List ℕ
entered_id e = e.id.now

abbrev pub entered_place : Option EnteredBreak → Option ℕ
entered_place None = None
entered_place (Some e) = e.place

-- the break that is entered, if any, is at its place
abbrev pub IsPlaced : List Entrance → Option EnteredBreak → Type 0
IsPlaced found None = Unit {0}
IsPlaced found (Some e) = IsPlacedAt found e.place (Some e.id.now)

-- so are those of a span
pub record HasPlaces (found : List Entrance) (span : BreakSpan) : Type 0 where
  pub first : IsPlacedAt found span.first_place span.first
  pub second : IsPlacedAt found span.second_place span.second
