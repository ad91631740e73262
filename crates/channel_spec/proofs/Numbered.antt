-- The stitched list as segments of a written playlist.
use Rattle.std.proofs.Common.{◌≡◌, ℕ, List, [], ◌∷◌, ◌++◌, map, reverse, refl, arith}
use Rattle.std.proofs.lemmas.List.{take-map, length-map, map-append}
use Rattle.std.proofs.lemmas.Grind.{reverse_onto}
use Rattle.playlist_model.specs.Segments.{Segment}
use Rattle.pod_store.specs.Marks.{Marked}
use Rattle.stitcher.specs.Stitched.{Piece, Numbers, Item, newest_place, up_to, from_place, numbered as items_of}
use Rattle.channel_spec.specs.Live.{item_segment}

abbrev pub numbered_segment : Piece → Numbers → Segment
numbered_segment p n = item_segment (record { piece = p; numbers = n })

abbrev pub numbered : Numbers → List Piece → List Segment
numbered first pieces = map item_segment (items_of first pieces)

abbrev pub window_place : ℕ → List Marked → ℕ
window_place number history = newest_place (up_to number history)

pub reverse-cons : {A : Type 0} (x : A) (xs : List A) → reverse (x ∷ xs) ≡ reverse xs ++ (x ∷ [])
reverse-cons x xs = reverse_onto xs x []

pub map-reverse : {A B : Type 0} (f : A → B) (xs : List A) → map f (reverse xs) ≡ reverse (map f xs)
map-reverse f [] = refl
map-reverse f (x ∷ xs) = grind (arith, reverse-cons, map-append, reverse, map-reverse f xs)

pub map-from_place : {A B : Type 0} (f : A → B) (place : ℕ) (xs : List A) → map f (from_place place xs) ≡ from_place place (map f xs)
map-from_place f place xs = grind (arith, length-map, take-map)

-- a window's segments are the window of the segments
pub map-window : (place : ℕ) (items : List Item) → map item_segment (reverse (from_place place items)) ≡ reverse (from_place place (map item_segment items))
map-window place items = grind (arith, map-reverse, reverse, map-from_place)
