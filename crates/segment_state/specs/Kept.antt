-- What is kept of a line, with what it said.
use Rattle.std.specs.Prelude.{◌≡◌, ℕ, List, Option, Some, None, Ok, ⊤, if◌then◌else◌}
use Rattle.std.specs.Borrow.{Bor}
use Rattle.url.specs.Parts.{Parts}
use Rattle.playlist_model.specs.Said.{duration, duration_said, uri_of}
use Rattle.segment_state.specs.declared.durations.Durations.TheInside.{Inside}
use Rattle.segment_state.specs.declared.references.Resolved.{Resolved}

-- the resource that is kept is the one that its reference names
abbrev pub IsResolved : Parts → Option Resolved → Type 0
IsResolved base None = ⊤
IsResolved base (Some last) = uri_of base last.reference.now ≡ Ok last.uri

-- a duration, and the text of a title
abbrev pub own_of : Option (ℕ × Bor (List ℕ)) → Option (ℕ × List ℕ)
own_of None = None
own_of (Some own) = Some (own.0, own.1.now)

-- the duration and the title that are kept are those that the text states
abbrev pub StatesDuration : List ℕ → Option (ℕ × List ℕ) → Type 0
StatesDuration text None = ⊤
StatesDuration text (Some own) = duration_said text ≡ Ok (duration own.0 own.1)

-- those that are kept
abbrev pub kept_own : Inside → Option (ℕ × List ℕ)
kept_own a = if a.is_said then Some (a.nanos, a.title.now) else None

-- they are the next segment's from their line to its URI line
abbrev pub due_of : Inside → Option (ℕ × List ℕ)
due_of a = if a.is_due then kept_own a else None

-- the next segment has the duration and the title that the text states
abbrev pub IsDue : List ℕ → Option (ℕ × List ℕ) → Type 0
IsDue text None = ⊥
IsDue text (Some own) = duration_said text ≡ Ok (duration own.0 own.1)
