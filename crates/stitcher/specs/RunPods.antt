-- The pods of the runs of marked segments, as they are looked up.
use Rattle.std.specs.Prelude.{◌≡◌, ℕ, List, [], ◌∷◌, ◌++◌, Option, Some, None}
use Rattle.std.specs.List.{slice_get}
use Rattle.std.specs.Option.{option_copied}
use Rattle.pod_store.specs.Pods.{Pod}
use Rattle.pod_store.specs.Store.{Store, pod_for}
use Rattle.stitcher.specs.declared.marked.MarkedSegment.{MarkedSegment}
use Rattle.stitcher.specs.declared.run_pods.RunPod.{RunPod}

-- marked segments, and the store that has their pods
pub record Runs : Type 0 where
  pub marked : List MarkedSegment
  pub store : Store

-- this is the pod of the break of a mark
abbrev pub IsPodOf : Store → Option Pod → Option (List ℕ) → Type 0
IsPodOf store pod None = Unit {0}
IsPodOf store pod (Some id) = pod ≡ pod_for store id

-- the pod that was looked up is that of the mark at its place
abbrev pub HasRunPod : Store → List MarkedSegment → RunPod → Type 0
HasRunPod store marked run = (m : MarkedSegment) → slice_get marked run.place ≡ Some m → IsPodOf store (option_copied run.pod) m.mark

-- these are the last of the marked segments
abbrev pub AreLeftOf : List MarkedSegment → List MarkedSegment → Type 0
AreLeftOf marked left = (front : List MarkedSegment) × (marked ≡ front ++ left)

abbrev pub IsPodOfFirst : Store → Option Pod → List MarkedSegment → Type 0
IsPodOfFirst store pod [] = Unit {0}
IsPodOfFirst store pod (m ∷ later) = IsPodOf store pod m.mark
