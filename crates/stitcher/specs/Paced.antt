-- Pods at the pace of their runs: of the pod of an open run as much is due as the run has lasted. Each list has the newest first.
use Rattle.std.specs.Prelude.{ℕ, ◌+◌, ◌-◌, Bool, nat_le, List, [], ◌∷◌, ◌++◌, reverse, drop, Option, Some, None, is_none, if◌then◌else◌}
use Rattle.pod_store.specs.Marks.{Mark, Marked, continues}
use Rattle.stitcher.specs.Stitched.{Piece, Item, kept_piece, pod_pieces, stitched, numbered, first_numbers}

-- ---- the newest run of a history

-- its first segment
abbrev pub first_of_run : Marked → List Marked → Marked
first_of_run s [] = s
first_of_run s (t ∷ before) = if continues s (t ∷ before) then first_of_run t before else s

-- the history before it
abbrev pub older : List Marked → List Marked
older [] = []
older (s ∷ before) = if continues s before then older before else before

-- how long it has lasted
abbrev pub run_length : List Marked → ℕ
run_length [] = 0
run_length (s ∷ before) = s.segment.duration + (if continues s before then run_length before else 0)

-- ---- what is due

-- the shortest front, of a piece at least, that lasts as long as this; all of them if none does
abbrev pub due : ℕ → List Piece → List Piece
due length [] = []
due length (p ∷ pieces) = p ∷ (if nat_le length p.segment.duration then [] else due (length - p.segment.duration) pieces)

-- what stands for a run that began with this segment: its whole pod, or what is due of it after this length
abbrev pub newest_pieces : Bool → ℕ → Marked → Option Mark → List Piece
newest_pieces whole length s None = kept_piece s ∷ []
newest_pieces whole length s (Some mark) = reverse (if whole then pod_pieces mark else due length (pod_pieces mark))

-- the stitched list, with the newest run's whole pod, or with what is due of it after this length
abbrev pub due_with : Bool → ℕ → List Marked → List Piece
due_with whole length [] = []
due_with whole length (s ∷ before) = newest_pieces whole length (first_of_run s before) (first_of_run s before).mark ++ stitched (older (s ∷ before))

-- the stitched list: the newest run is open until the playlist has ended
abbrev pub due_stitched : Bool → List Marked → List Piece
due_stitched ended history = due_with ended (run_length history) history

-- the same with its numbers
abbrev pub due_list : Bool → List Marked → List Item
due_list ended history = numbered (first_numbers history) (due_stitched ended history)

-- ---- the two ends of a part of the list

-- the rest of a pod, from this place in it on
pub record PodRest : Type 0 where
  pub mark : Mark
  pub place : ℕ

abbrev pub rest_pieces : Option PodRest → List Piece
rest_pieces None = []
rest_pieces (Some rest) = reverse (drop rest.place (pod_pieces rest.mark))

-- the rest of a pod that comes first, and how long the last run has lasted, if it is open
pub record StitchedEnds : Type 0 where
  pub rest : Option PodRest
  pub so_far : Option ℕ

abbrev pub or_zero : Option ℕ → ℕ
or_zero None = 0
or_zero (Some n) = n

-- the list of these segments, between these ends
abbrev pub stitched_with : StitchedEnds → List Marked → List Piece
stitched_with ends marked = due_with (is_none ends.so_far) (or_zero ends.so_far) marked ++ rest_pieces ends.rest
