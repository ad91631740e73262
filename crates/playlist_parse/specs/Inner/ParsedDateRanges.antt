-- Date ranges that were read once, and stand again.
use Rattle.std.specs.Prelude.{◌≡◌, ℕ, List, [], ◌∷◌, ◌++◌, Some, Ok, slice_get}
use Rattle.std.specs.List.{AllByRecursion}
use Rattle.playlist_model.specs.declared.DateRange.{DateRange}
use Rattle.playlist_model.specs.Said.{date_range, date_range_said}
use Rattle.playlist_model.specs.Reading.{limited}

-- the date range is what its attributes say
abbrev pub IsSaidByAttributes : DateRange → Type 0
IsSaidByAttributes one = date_range_said limited one.attributes ≡ Ok (date_range one)

abbrev pub AreSaidByAttributes : List DateRange → Type 0
AreSaidByAttributes list = AllByRecursion IsSaidByAttributes list

-- the one at this place has these attributes
pub record HasAttributesAt (list : List DateRange) (place : ℕ) (rest : List ℕ) : Type 0 where
  pub one : DateRange
  pub here : slice_get list place ≡ Some one
  pub same : one.attributes ≡ rest

-- the date range that these attributes say comes after the others
pub record Adds (rest : List ℕ) (old new : List DateRange) : Type 0 where
  pub one : DateRange
  pub said : date_range_said limited rest ≡ Ok (date_range one)
  pub is : new ≡ old ++ one ∷ []
