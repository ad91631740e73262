-- A stitched list as it is made, item by item, in the order of a playlist. Its words serve proofs and inner contracts: those
-- of `stitch`, and of the place of a window in the list (`channel_window`).
use Rattle.std.specs.Prelude.{ℕ, Bool, false, List, [], ◌∷◌, Option, Some, None, bytes_eq}
use Rattle.pod_store.specs.Pods.{Pod}
use Rattle.stitcher.specs.Stitched.{Piece, kept_piece, pod_pieces}
use Rattle.pod_store.specs.Store.{Store, pod_for}
use Rattle.stitcher.specs.declared.marked.MarkedSegment.{MarkedSegment}

-- ---- pieces

abbrev pub is_same_stitched_run : Option (List ℕ) → Option (List ℕ) → Bool
is_same_stitched_run (Some id) (Some other) = bytes_eq id other
is_same_stitched_run (Some id) None = false
is_same_stitched_run None other = false

abbrev pub unmarked_piece : MarkedSegment → Piece
unmarked_piece m = kept_piece (record { segment = m.segment; instant = m.instant; mark = None })

-- the whole of a pod
abbrev pub pod_with : List ℕ → Option Pod → List Piece
pod_with id None = []
pod_with id (Some pod) = pod_pieces (record { id = id; pod = pod })

-- what stands where a run begins that is shown whole
abbrev pub begun : Store → MarkedSegment → Option (List ℕ) → List Piece
begun store m None = unmarked_piece m ∷ []
begun store m (Some id) = pod_with id (pod_for store id)
