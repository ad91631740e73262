-- A state, and what a line does to it.
use Rattle.std.specs.Prelude.{◌≡◌, ◌++◌, ℕ, List, [], ◌∷◌, Result, Ok, Err, MatchResult, IsOk}
use Rattle.url.specs.Parts.{Parts}
use Rattle.playlist_model.specs.declared.FaultKind.{FaultKind}
use Rattle.playlist_model.specs.Segments.{Segment}
use Rattle.playlist_model.specs.Said.{Said, Name, media, Outcome}
use Rattle.playlist_model.specs.Reading.{limited, said_by_tag}
use Rattle.playlist_model.specs.LookBack.{Standing, standing_at, with_said, segment_at}
use Rattle.playlist_model.specs.Refusals.{RefusesByPlaylistFault}

-- the base of the playlist's references, what stands at a line, and the segments that were read
pub record Running : Type 0 where
  pub base : Parts
  pub standing : Standing
  pub segments : List Segment

-- the state before any line
abbrev pub unread : Parts → Running
unread base = record { base = base; standing = standing_at []; segments = [] }

-- the same segments after lines that say this, the last first
abbrev pub after_lines : Running → List Said → Running
after_lines old before = record old { standing = standing_at before }

-- after any lines that leave what stands, this is said too
abbrev pub SayingLeadsTo : Said → Running → Running → Type 0
SayingLeadsTo said old new = (before : List Said) → old.standing ≡ standing_at before → new ≡ after_lines old (said ∷ before)

-- after any lines that leave what stands, the line says its part and that stands too; or its fault
-- is answered, and what stood stands
abbrev pub Takes : (Parts → List Said → Outcome Said) → Running → Running → Result (Unit {0}) FaultKind → Type 0
Takes outcome old new result =
    (before : List Said) → old.standing ≡ standing_at before →
    MatchResult result
    (λ _. IsOk (outcome old.base before) × (new ≡ after_lines old (with_said before (outcome old.base before))))
    (λ e. RefusesByPlaylistFault e (outcome old.base before) × (new ≡ old))

-- the same of a line that takes no memory: the fault is always the line's own
abbrev pub TakesExactly : (Parts → List Said → Outcome Said) → Running → Running → Result (Unit {0}) FaultKind → Type 0
TakesExactly outcome old new result =
    (before : List Said) → old.standing ≡ standing_at before →
    MatchResult result
    (λ _. IsOk (outcome old.base before) × (new ≡ after_lines old (with_said before (outcome old.base before))))
    (λ e. (outcome old.base before ≡ Err e) × (new ≡ old))

-- the same of the tag of this name, with this after its colon
abbrev pub TakesTag : Name → List ℕ → Running → Running → Result (Unit {0}) FaultKind → Type 0
TakesTag name rest old new result = Takes (λ base before. said_by_tag limited base before name rest) old new result

abbrev pub TakesTagExactly : Name → List ℕ → Running → Running → Result (Unit {0}) FaultKind → Type 0
TakesTagExactly name rest old new result =
    TakesExactly (λ base before. said_by_tag limited base before name rest) old new result

-- what Takes says of a URI line, which gives a segment: the one that stands there
abbrev pub TakesSegment : (Parts → List Said → Outcome Said) → Running → Running → Result (Unit {0}) FaultKind → Type 0
TakesSegment outcome old new result =
    (before : List Said) → old.standing ≡ standing_at before →
    MatchResult result
    (λ _. (uri : List ℕ) × (outcome old.base before ≡ Ok (media uri))
    × (new ≡ record (after_lines old (media uri ∷ before)) { segments = old.segments ++ segment_at before uri ∷ [] }))
    (λ e. RefusesByPlaylistFault e (outcome old.base before) × (new ≡ old))

-- one segment more was read
pub record ReadsOne (old new : List Segment) : Type 0 where
  pub segment : Segment
  pub is : new ≡ old ++ segment ∷ []
