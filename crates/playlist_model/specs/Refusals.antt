-- What a fault of a playlist says. A failed allocation says nothing of the rest.
use Rattle.spec_words.specs.Outcomes as outcomes
use Rattle.playlist_model.specs.declared.FaultKind.{FaultKind}
use Rattle.playlist_model.specs.declared.FaultKind.TheVariants as fault
use Rattle.playlist_model.specs.Said.{Outcome}

-- the fault is the outcome's, a failed allocation apart
abbrev pub RefusesByPlaylistFault : {A : Type 0} → FaultKind → Outcome A → Type 0
RefusesByPlaylistFault e outcome = outcomes.Refuses fault.OutOfMemory e outcome

-- the value means what is owed, or the fault is the one owed, a failed allocation apart
abbrev pub GivesOrPlaylistFault : {A B : Type 0} → (A → B) → Outcome A → Outcome B → Type 0
GivesOrPlaylistFault means result outcome = outcomes.Gives fault.OutOfMemory means result outcome
