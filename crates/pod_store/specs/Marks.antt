-- The segments of the origin that were ever shown, each with the break that it is marked with. A list of
-- them has the newest first.
use Rattle.std.specs.Prelude.{ℕ, Bool, false, List, [], ◌∷◌, ℤ, Option, Some, None, bytes_eq}
use Rattle.playlist_model.specs.Segments.{Segment}
use Rattle.pod_store.specs.Pods.{Pod}
use Rattle.pod_store.specs.Store.{Store, pod_for}

-- a break, with the pod that it had when its run was entered
pub record Mark : Type 0 where
  pub id : List ℕ
  pub pod : Pod

abbrev pub mark_with : List ℕ → Option Pod → Option Mark
mark_with id None = None
mark_with id (Some pod) = Some (record { id = id; pod = pod })

-- the break of an ID, with the pod that it has in the store
abbrev pub mark_in : Store → Option (List ℕ) → Option Mark
mark_in store None = None
mark_in store (Some id) = mark_with id (pod_for store id)

-- a segment, the instant at which it begins if it has one, and the break that it is marked with
pub record Marked : Type 0 where
  pub segment : Segment
  pub instant : Option ℤ
  pub mark : Option Mark

abbrev pub newest_mark : List Marked → Option Mark
newest_mark [] = None
newest_mark (s ∷ before) = s.mark

-- both are marked, with one break
abbrev pub are_one : Option Mark → Option Mark → Bool
are_one (Some m) (Some n) = bytes_eq m.id n.id
are_one (Some m) None = false
are_one None n = false

-- whether a segment goes on the run of the newest one before it
abbrev pub continues : Marked → List Marked → Bool
continues s before = are_one s.mark (newest_mark before)
