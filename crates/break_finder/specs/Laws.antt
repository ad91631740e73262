-- What holds of known breaks, whatever the refreshes.
use Rattle.std.specs.Prelude.{◌≡◌, ℕ, List, [], ◌∷◌, Some, IsSome}
use Rattle.break_finder.specs.Breaks.{break_of}
use Rattle.break_finder.specs.Known.{Accepted, known, carry}

-- each carried mark was known
abbrev pub CarriesKnown : List Accepted → Type 0
CarriesKnown [] = Unit {0}
CarriesKnown (refresh ∷ before) =
    ((id : List ℕ) → refresh.carried ≡ Some id → IsSome (break_of (known before) id)) × CarriesKnown before

-- what is carried on is what looking back gives
abbrev pub KnowledgeIsCarried : Type 0
KnowledgeIsCarried = (refresh : Accepted) (before : List Accepted) → CarriesKnown before → known (refresh ∷ before) ≡ carry refresh (known before)
