-- Kept segments that follow each other.
use Rattle.std.proofs.Common.{◌≡◌, ℕ, Bool, true, false, ◌&&◌, List, [], ◌∷◌, ◌++◌, map, refl, ap, ◌∙◌, append_assoc, take, drop, arith}
use Rattle.std.specs.Prelude.{ℤ, Option, Some, None}
use Rattle.std.specs.List.{list_all}
use Rattle.std.proofs.lemmas.List.Folds.{list_all-append}
use Rattle.playlist_model.specs.Segments.{Segment}
use Rattle.playlist_model.specs.declared.in_common.InCommon.{InCommon}
use Rattle.pod_store.specs.Store.{Store}
use Rattle.stitcher.specs.Stitched.{Piece, Numbers}
use Rattle.stitcher.specs.Written.{written_item}
use Rattle.stitcher.specs.StitchedSegments.{item_fits}
use Rattle.stitcher.specs.Making.{unmarked_piece}
use Rattle.stitcher.specs.declared.marked.MarkedSegment.{MarkedSegment}
use Rattle.stitcher.specs.Stretches.{stitched_kept_item, segment_items, stitched_numbers_on}
use Rattle.stitcher.specs.Inner.Making.{Made, numbers_after, last_of, counted, comes_to, PutsPieces, Passes, kept_on, last_of_stitched_run, pieces_on, unmarked_front_to_stitch, front_pieces, after_front}

-- ---- their numbers

counted_run : (first n : Numbers) (m : MarkedSegment) (later : List MarkedSegment) (more : List Piece)
    → map written_item (record { piece = unmarked_piece m; numbers = n } ∷ counted first (Some (last_of (unmarked_piece m) n)) (map unmarked_piece later ++ more))
    ≡ segment_items n (m ∷ later) ++ map written_item (counted first (Some (last_of_stitched_run n m later)) more)
counted_run first n m [] more = refl
counted_run first n m (next ∷ later) more = ap (λ t. stitched_kept_item n m ∷ t) (counted_run first (stitched_numbers_on n m (next ∷ later)) next later more)

comes_run : (made : Made) (n : Numbers) (m : MarkedSegment) (later : List MarkedSegment) (more : List Piece) → n ≡ numbers_after made.first made.last (unmarked_piece m)
    → comes_to made (map unmarked_piece (m ∷ later) ++ more)
    ≡ made.items ++ (segment_items n (m ∷ later) ++ map written_item (counted made.first (Some (last_of_stitched_run n m later)) more))
comes_run made n m later more same = grind (arith, counted_run)

both_true : (a b : Bool) → a ≡ true → b ≡ true → (a && b) ≡ true
both_true true b p q = q
both_true false b p q = p

middle_false : (a b c : Bool) → b ≡ false → (a && (b && c)) ≡ false
middle_false true true c q = cc
middle_false true false c q = refl
middle_false false b c q = refl

-- they are put, if their numbers fit
pub puts_run : (made : Made) (n : Numbers) (m : MarkedSegment) (later : List MarkedSegment) → n ≡ numbers_after made.first made.last (unmarked_piece m)
    → list_all item_fits (segment_items n (m ∷ later)) ≡ true → PutsPieces made (kept_on made (m ∷ later) n (last_of_stitched_run n m later)) (map unmarked_piece (m ∷ later))
puts_run made n m later same fits = grind (arith, comes_run, append_assoc, list_all-append, both_true)

pub passes_run : (made : Made) (n : Numbers) (m : MarkedSegment) (later : List MarkedSegment) → n ≡ numbers_after made.first made.last (unmarked_piece m)
    → list_all item_fits (segment_items n (m ∷ later)) ≡ false → Passes made (map unmarked_piece (m ∷ later))
passes_run made n m later same unfit more =
    let rest = map written_item (counted made.first (Some (last_of_stitched_run n m later)) more) in
    ap (list_all item_fits) (comes_run made n m later more same)
    ∙ (list_all-append item_fits made.items (segment_items n (m ∷ later) ++ rest)
    ∙ (ap (λ b. list_all item_fits made.items && b) (list_all-append item_fits (segment_items n (m ∷ later)) rest)
    ∙ middle_false (list_all item_fits made.items) _ (list_all item_fits rest) unfit))

-- ---- the segments in front that have no mark

unmarked_more : (store : Store) (so_far : Option ℕ) (s : Segment) (instant : Option ℤ) (goes : Bool) (common : InCommon) (again : ℕ) (mark : Option (List ℕ)) (later : List MarkedSegment)
    → pieces_on store so_far None later ≡ map unmarked_piece (take (unmarked_front_to_stitch later) later) ++ pieces_on store so_far None (drop (unmarked_front_to_stitch later) later)
    → let m : MarkedSegment = record { segment = s; instant = instant; mark = mark; goes_on = goes; in_common = common; again = again } in
    pieces_on store so_far None (m ∷ later)
    ≡ map unmarked_piece (take (unmarked_front_to_stitch (m ∷ later)) (m ∷ later)) ++ pieces_on store so_far None (drop (unmarked_front_to_stitch (m ∷ later)) (m ∷ later))
unmarked_more store so_far s instant goes common again mark later h = grind arith

unmarked_pieces : (store : Store) (so_far : Option ℕ) (list : List MarkedSegment)
    → pieces_on store so_far None list ≡ map unmarked_piece (take (unmarked_front_to_stitch list) list) ++ pieces_on store so_far None (drop (unmarked_front_to_stitch list) list)
unmarked_pieces store so_far [] = refl
unmarked_pieces store so_far (m ∷ later) = unmarked_more store so_far m.segment m.instant m.goes_on m.in_common m.again m.mark later (unmarked_pieces store so_far later)

front_with : (store : Store) (so_far : Option ℕ) (previous : Option (List ℕ)) (s : Segment) (instant : Option ℤ) (goes : Bool) (common : InCommon) (again : ℕ) (mark : Option (List ℕ)) (later : List MarkedSegment)
    → let m : MarkedSegment = record { segment = s; instant = instant; mark = mark; goes_on = goes; in_common = common; again = again } in
    pieces_on store so_far previous (m ∷ later) ≡ front_pieces store so_far previous (m ∷ later) ++ pieces_on store so_far mark (after_front (m ∷ later))
front_with store so_far previous s instant goes common again None later = grind (arith, unmarked_pieces)
front_with store so_far previous s instant goes common again (Some id) later = refl

pieces_front : (store : Store) (so_far : Option ℕ) (previous : Option (List ℕ)) (m : MarkedSegment) (later : List MarkedSegment)
    → pieces_on store so_far previous (m ∷ later) ≡ front_pieces store so_far previous (m ∷ later) ++ pieces_on store so_far m.mark (after_front (m ∷ later))
pieces_front store so_far previous m later = grind (arith, front_with)

-- what stands for segments begins with what stands for those in front
pub pieces_front_at : (store : Store) (so_far : Option ℕ) (previous : Option (List ℕ)) (list : List MarkedSegment) (m : MarkedSegment) (later : List MarkedSegment) → list ≡ m ∷ later
    → pieces_on store so_far previous list ≡ front_pieces store so_far previous list ++ pieces_on store so_far m.mark (after_front list)
pieces_front_at store so_far previous list m later e = grind (arith, pieces_front)
