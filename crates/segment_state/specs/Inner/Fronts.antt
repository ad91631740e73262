-- What the front of EXTINF's text states, up to its comma.
use Rattle.std.specs.Prelude.{◌≡◌, ℕ, List, ◌++◌, Ok}
use Rattle.playlist_model.specs.Said.{duration, duration_said}

-- whatever follows the front is the title, and the duration is this
abbrev pub IsDurationFront : List ℕ → ℕ → Type 0
IsDurationFront front nanos = (title : List ℕ) → duration_said (front ++ title) ≡ Ok (duration nanos title)
