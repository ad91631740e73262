-- What proofs and inner functions say with the definitions of `Making`.
use Rattle.stitcher.specs.Making.{is_same_stitched_run, unmarked_piece, pod_with}
use Rattle.std.specs.Prelude.{◌≡◌, ℕ, ◌+◌, ◌-◌, ◌^◌, ◌==◌, Bool, true, false, not, ◌&&◌, ◌||◌, nat_le, nat_lt, List, [], ◌∷◌, ◌++◌, map, take, drop, ℤ, Option, Some, None, is_some, option_map, if◌then◌else◌}
use Rattle.std.specs.List.{list_all}
use Rattle.playlist_model.specs.Segments.{Segment}
use Rattle.playlist_model.specs.declared.Key.{Key}
use Rattle.playlist_model.specs.declared.InitSection.{InitSection}
use Rattle.pod_store.specs.Pods.{Ad}
use Rattle.pod_store.specs.Rules.{ad_keeps}
use Rattle.stitcher.specs.Stitched.{Piece, is_kept, Numbers, next_stitched_numbers, Item, with_keys}
use Rattle.pod_store.specs.Store.{Store, pod_for}
use Rattle.stitcher.specs.declared.OutSegment.{OutSegment}
use Rattle.stitcher.specs.declared.marked.MarkedSegment.{MarkedSegment}
use Rattle.stitcher.specs.declared.making.Last.{Last}
use Rattle.stitcher.specs.declared.ends.Rest.{Rest}
use Rattle.stitcher.specs.declared.ends.Ends.{Ends}
use Rattle.stitcher.specs.declared.making.Part.{Part}
use Rattle.stitcher.specs.StitchedSegments.{item_fits}
use Rattle.stitcher.specs.Written.{written_item}
use Rattle.stitcher.specs.Stretches.{segment_items, stitched_numbers_on}

-- ---- the list so far

-- the numbers of the first item, the last item, the items so far, and the keys and the initialisation section of the next
-- segment of an ad
pub record Made : Type 0 where
  pub first : Numbers
  pub last : Option Last
  pub items : List OutSegment
  pub keys : List Key
  pub init_section : Option InitSection

abbrev pub nothing_made : Numbers → Made
nothing_made first = record { first = first; last = None; items = []; keys = []; init_section = None }

-- the list once an ad begins
abbrev pub under_ad : Made → Ad → Made
under_ad made ad = record made { keys = ad.keys; init_section = option_map (with_keys ad.keys) ad.init_section }

-- the next segment of an ad is one of this ad, which keeps the rules
pub record IsUnder (made : Made) (ad : Ad) : Type 0 where
  pub keys : made.keys ≡ ad.keys
  pub init_section : made.init_section ≡ option_map (with_keys ad.keys) ad.init_section
  pub rules : ad_keeps ad ≡ true

abbrev pub numbers_fit : Numbers → Bool
numbers_fit n = nat_lt n.media_sequence (2 ^ 64) && nat_lt n.discontinuity_sequence (2 ^ 64)

-- the origin's discontinuity number, of a piece that is kept
abbrev pub origin_discontinuity : Piece → Option ℕ
origin_discontinuity p = if is_kept p then Some p.segment.discontinuity_sequence else None

-- the steps to a kept segment of this discontinuity number, from the piece before it
abbrev pub steps_back : Option ℕ → ℕ → ℕ
steps_back None discontinuity = 1
steps_back (Some before) discontinuity = discontinuity - before

-- the numbers of an item so many steps after the last; without a last, those of the first
abbrev pub numbers_with : Numbers → Option Last → ℕ → Numbers
numbers_with first None steps = first
numbers_with first (Some last) steps = next_stitched_numbers last.numbers steps

-- the steps to a kept segment; those of the first are its own
abbrev pub steps_from : Option Last → ℕ → ℕ
steps_from None discontinuity = 0
steps_from (Some last) discontinuity = steps_back last.origin discontinuity

abbrev pub ad_steps : Bool → ℕ
ad_steps first = if first then 1 else 0

abbrev pub steps_of : Option Last → Piece → ℕ
steps_of last p = if is_kept p then steps_from last p.segment.discontinuity_sequence else ad_steps p.first_of_ad

abbrev pub numbers_after : Numbers → Option Last → Piece → Numbers
numbers_after first last p = numbers_with first last (steps_of last p)

-- the list with one more item
abbrev pub pushed : Made → Segment → Option ℤ → Numbers → Option ℕ → Made
pushed made s time n origin = record made {
  last = Some (record { numbers = n; origin = origin });
  items = made.items ++ record { segment = s; media_sequence = n.media_sequence; discontinuity_sequence = n.discontinuity_sequence; discontinuities = n.discontinuities; program_date_time = time } ∷ [];
}

abbrev pub last_of : Piece → Numbers → Last
last_of p n = record { numbers = n; origin = origin_discontinuity p }

-- the list with kept segments more, of which the first has these numbers
abbrev pub kept_on : Made → List MarkedSegment → Numbers → Last → Made
kept_on made kept n last = record { first = made.first; last = Some last; items = made.items ++ segment_items n kept; keys = []; init_section = None }

-- the last of kept segments that follow each other, the first of which has these numbers
abbrev pub last_of_stitched_run : Numbers → MarkedSegment → List MarkedSegment → Last
last_of_stitched_run n m [] = record { numbers = n; origin = Some m.segment.discontinuity_sequence }
last_of_stitched_run n m (next ∷ later) = last_of_stitched_run (stitched_numbers_on n m (next ∷ later)) next later

-- its discontinuity number at the origin is this one
abbrev pub is_in_discontinuity : ℕ → MarkedSegment → Bool
is_in_discontinuity discontinuity m = m.segment.discontinuity_sequence == discontinuity

-- the last of so many segments of one discontinuity number that follow one with these numbers
abbrev pub last_of_one_discontinuity : Numbers → ℕ → ℕ → Last
last_of_one_discontinuity n discontinuity count = record { numbers = record { media_sequence = n.media_sequence + count; discontinuity_sequence = n.discontinuity_sequence; discontinuities = 0 }; origin = Some discontinuity }

-- pieces in order, with the numbers counted on
abbrev pub counted : Numbers → Option Last → List Piece → List Item
counted first last [] = []
counted first last (p ∷ later) =
    record { piece = p; numbers = numbers_after first last p }
    ∷ counted first (Some (last_of p (numbers_after first last p))) later

-- what it comes to with these pieces after it
abbrev pub comes_to : Made → List Piece → List OutSegment
comes_to made pieces = made.items ++ map written_item (counted made.first made.last pieces)

-- these pieces were put after it: it comes to the same, and its numbers fit if they did
pub record PutsPieces (old new : Made) (pieces : List Piece) : Type 0 where
  pub first : new.first ≡ old.first
  pub comes : (later : List Piece) → comes_to old (pieces ++ later) ≡ comes_to new later
  pub fit : list_all item_fits old.items ≡ true → list_all item_fits new.items ≡ true

-- a number does not fit, whatever stands after these pieces
abbrev pub Passes : Made → List Piece → Type 0
Passes made pieces = (later : List Piece) → list_all item_fits (comes_to made (pieces ++ later)) ≡ false

-- ---- pieces

abbrev pub is_nothing : ℕ → Bool
is_nothing n = n == 0

-- whether the next piece is shown
abbrev pub stitched_part_shows_next : Part → Bool
stitched_part_shows_next part = is_nothing part.skip && not part.done

-- the part that is shown of what stands after a piece of this duration
abbrev pub part_after_one : Part → ℕ → Part
part_after_one part duration =
    if is_nothing part.skip then record { skip = 0; whole = part.whole; left = part.left - duration; done = part.done || (not part.whole && nat_le part.left duration) }
    else record { skip = part.skip - 1; whole = part.whole; left = part.left; done = part.done }

abbrev pub part_here : Part → Piece → List Piece
part_here part p = if stitched_part_shows_next part then p ∷ [] else []

abbrev pub pieces_in_part : Part → List Piece → List Piece
pieces_in_part part [] = []
pieces_in_part part (p ∷ later) = part_here part p ++ pieces_in_part (part_after_one part p.segment.duration) later

abbrev pub stitched_part_after : Part → List Piece → Part
stitched_part_after part [] = part
stitched_part_after part (p ∷ later) = stitched_part_after (part_after_one part p.segment.duration) later

-- a whole pod, from this place on
abbrev pub whole_from : ℕ → Part
whole_from place = record { skip = place; whole = true; left = 0; done = false }

-- what is due of the pod of a run that is so long so far, if it is open; else all of it
abbrev pub part_due : Option ℕ → Part
part_due None = whole_from 0
part_due (Some length) = record { skip = 0; whole = false; left = length; done = false }

-- the mark of the last of these, which follow a segment of this mark
abbrev pub mark_after : Option (List ℕ) → List MarkedSegment → Option (List ℕ)
mark_after previous [] = previous
mark_after previous (m ∷ later) = mark_after m.mark later

-- the run goes on to the last of these
abbrev pub stitched_run_goes_on_to_last : Option (List ℕ) → List MarkedSegment → Bool
stitched_run_goes_on_to_last previous [] = true
stitched_run_goes_on_to_last previous (m ∷ later) = is_same_stitched_run m.mark previous && stitched_run_goes_on_to_last m.mark later

abbrev pub stitched_part_at : Option ℕ → Option (List ℕ) → List MarkedSegment → Part
stitched_part_at so_far mark later = if stitched_run_goes_on_to_last mark later then part_due so_far else whole_from 0

abbrev pub begun_with : Store → Part → MarkedSegment → Option (List ℕ) → List Piece
begun_with store part m None = unmarked_piece m ∷ []
begun_with store part m (Some id) = pieces_in_part part (pod_with id (pod_for store id))

-- what stands for a segment after one of this mark, before these
abbrev pub pieces_at : Store → Option ℕ → Option (List ℕ) → MarkedSegment → List MarkedSegment → List Piece
pieces_at store so_far previous m later = if is_same_stitched_run m.mark previous then [] else begun_with store (stitched_part_at so_far m.mark later) m m.mark

abbrev pub pieces_on : Store → Option ℕ → Option (List ℕ) → List MarkedSegment → List Piece
pieces_on store so_far previous [] = []
pieces_on store so_far previous (m ∷ later) = pieces_at store so_far previous m later ++ pieces_on store so_far m.mark later

-- how many segments in front have no mark
abbrev pub unmarked_front_to_stitch : List MarkedSegment → ℕ
unmarked_front_to_stitch [] = 0
unmarked_front_to_stitch (m ∷ later) = if is_some m.mark then 0 else unmarked_front_to_stitch later + 1

-- what stands for the first of segments, and, if it has no mark, for those without one that follow it
abbrev pub begun_in : Store → Part → List MarkedSegment → Option (List ℕ) → List Piece
begun_in store part segments None = map unmarked_piece (take (unmarked_front_to_stitch segments) segments)
begun_in store part segments (Some id) = pieces_in_part part (pod_with id (pod_for store id))

abbrev pub front_pieces : Store → Option ℕ → Option (List ℕ) → List MarkedSegment → List Piece
front_pieces store so_far previous [] = []
front_pieces store so_far previous (m ∷ later) = if is_same_stitched_run m.mark previous then [] else begun_in store (stitched_part_at so_far m.mark later) (m ∷ later) m.mark

-- the segments after that
abbrev pub after_begun : List MarkedSegment → List MarkedSegment → Option (List ℕ) → List MarkedSegment
after_begun segments later None = drop (unmarked_front_to_stitch segments) segments
after_begun segments later (Some id) = later

abbrev pub after_front : List MarkedSegment → List MarkedSegment
after_front [] = []
after_front (m ∷ later) = after_begun (m ∷ later) later m.mark

abbrev pub pieces_of_rest : Store → Option Rest → List Piece
pieces_of_rest store None = []
pieces_of_rest store (Some rest) = pieces_in_part (whole_from rest.place) (pod_with rest.id (pod_for store rest.id))

-- all of them, in order
abbrev pub pieces_between : Store → Ends → List MarkedSegment → List Piece
pieces_between store ends marked = pieces_of_rest store ends.rest ++ pieces_on store ends.so_far None marked
