-- What a fault says. A failed allocation says nothing of the rest.
use Rattle.std.specs.Prelude.{◌≡◌, ℕ, List, Option, None}
use Rattle.url.specs.Parts.{Parts}
use Rattle.uri_resolver.specs.declared.BaseFault.{BaseFault}
use Rattle.uri_resolver.specs.declared.BaseFault.TheVariants.{BadBase, OutOfMemory, BadUri}

abbrev pub RefusesUri : BaseFault → Option (List ℕ) → Type 0
RefusesUri BadBase expected = ⊥
RefusesUri OutOfMemory expected = Unit {0}
RefusesUri BadUri expected = expected ≡ None

abbrev pub RefusesBase : BaseFault → Option Parts → Type 0
RefusesBase BadBase expected = expected ≡ None
RefusesBase OutOfMemory expected = Unit {0}
RefusesBase BadUri expected = ⊥
