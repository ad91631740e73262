-- The pieces of a stitched list can be written.
use Rattle.std.proofs.Common.{◌≡◌, ℕ, ◌<◌, ◌^◌, ℤ, Bool, true, false, not, cond, zero, suc, List, [], ◌∷◌, map, take, length, reverse, refl, ap, ◌∙◌, arith}
use Rattle.std.specs.Prelude.{Option, ◌&&◌, ◌||◌, ◌==◌, nat_le, nat_lt, is_some, option_map}
use Rattle.std.specs.List.{list_all, list_any, AllByRecursion}
use Rattle.std.specs.Char.{is_control}
use Rattle.std.proofs.lemmas.Bool.{and_from, and_parts}
use Rattle.std.proofs.lemmas.Bool.Decides.{nat_tests}
use Rattle.std.proofs.lemmas.List.Folds.{list_all-append}
use Rattle.std.proofs.lemmas.Str.{chars-nil, IsUtf8-nil, is_utf8-from_IsUtf8}
use mathlib.Core.List.{reverse_aux}
use Rattle.playlist_model.specs.Segments.{Segment}
use Rattle.date_times.specs.Instant.{in_range}
use Rattle.pod_store.specs.Pods.{PodSegment, Ad, Pod}
use Rattle.pod_store.specs.Marks.{Mark, Marked}
use Rattle.stitcher.specs.Stitched.{Piece, is_kept, with_keys, ad_piece, ad_pieces, pieces_of_ads, run_pieces, stitched, Numbers, numbers_at, Item, numbered, can_be_numbered}
use Rattle.stitcher.specs.declared.OutSegment.{OutSegment}
use Rattle.stitcher.specs.Written.{written_item}
use Rattle.writable.specs.Fitting.{if_some, is_clean, effective_keys_fit, init_section_fits}
use Rattle.playlist_model.specs.Numbering.{follows, all_follow}
use Rattle.playlist_write.specs.WellFormed.{well_formed_resource_fits, duration_fits, well_formed_segment_fits, out_numbers, out_numbers_rise, written_segment_has_init_section, written_init_sections_agree}
use Rattle.pod_store.specs.Laws.{segment_can_be_written, ad_can_be_written}
use Rattle.channel_spec.proofs.Reversed.{list_all-reverse}
use Rattle.owed_is_denoted.proofs.Writable.{stitched_ad, stitched_ads, pod_can_be_written}
use Rattle.owed_is_denoted.proofs.AllPods.{OfMark}

-- ---- a segment can be written, whatever its numbers, with this time

abbrev fits_with : Bool → Segment → Option ℤ → Bool
fits_with words s time =
    words && well_formed_resource_fits s && effective_keys_fit s.keys && if_some init_section_fits s.init_section && duration_fits s.duration && is_clean s.title
    && if_some in_range time

abbrev pub can_stand : Segment → Option ℤ → Bool
can_stand s time = fits_with true s time

abbrev pub piece_stands : Piece → Bool
piece_stands p = can_stand p.segment p.instant

-- ---- pods

empty_is_clean : is_clean [] ≡ true
empty_is_clean = and_from _ _ (is_utf8-from_IsUtf8 [] IsUtf8-nil) (ap (λ cs. not (list_any is_control cs)) chars-nil)

segment_stands : (mark : Mark) (first : Bool) (ad : Ad) (s : PodSegment) → effective_keys_fit ad.keys ≡ true → if_some init_section_fits (option_map (with_keys ad.keys) ad.init_section) ≡ true
    → segment_can_be_written s ≡ true → piece_stands (ad_piece mark first ad s) ≡ true
segment_stands mark first ad s k m h = grind (arith, and_parts, and_from, empty_is_clean)

later_stand : (mark : Mark) (ad : Ad) (segments : List PodSegment) → effective_keys_fit ad.keys ≡ true → if_some init_section_fits (option_map (with_keys ad.keys) ad.init_section) ≡ true
    → list_all segment_can_be_written segments ≡ true → list_all piece_stands (map (ad_piece mark false ad) segments) ≡ true
later_stand mark ad [] k m h = refl
later_stand mark ad (s ∷ later) k m h = let a = and_parts _ _ h in and_from _ _ (segment_stands mark false ad s k m a.0) (later_stand mark ad later k m a.1)

ad_stands : (mark : Mark) (ad : Ad) (segments : List PodSegment) → effective_keys_fit ad.keys ≡ true → if_some init_section_fits (option_map (with_keys ad.keys) ad.init_section) ≡ true
    → list_all segment_can_be_written segments ≡ true → list_all piece_stands (ad_pieces mark ad segments) ≡ true
ad_stands mark ad [] k m h = refl
ad_stands mark ad (s ∷ later) k m h = let a = and_parts _ _ h in and_from _ _ (segment_stands mark true ad s k m a.0) (later_stand mark ad later k m a.1)

ads_stand : (mark : Mark) (ads : List Ad) → list_all ad_can_be_written (stitched_ads ads) ≡ true → list_all piece_stands (pieces_of_ads mark ads) ≡ true
ads_stand mark [] h = refl
ads_stand mark (ad ∷ ads) h =
    let a = and_parts (ad_can_be_written (stitched_ad ad)) (list_all ad_can_be_written (stitched_ads ads)) h in
    let b : ((effective_keys_fit ad.keys && if_some init_section_fits (option_map (with_keys ad.keys) ad.init_section)) ≡ true) × (list_all segment_can_be_written ad.segments ≡ true) = and_parts _ _ a.0 in
    let c = and_parts (effective_keys_fit ad.keys) (if_some init_section_fits (option_map (with_keys ad.keys) ad.init_section)) b.0 in
    list_all-append piece_stands (ad_pieces mark ad ad.segments) (pieces_of_ads mark ads) ∙ and_from _ _ (ad_stands mark ad ad.segments c.0 c.1 b.1) (ads_stand mark ads a.1)

-- ---- list tests

pub all_taken : {A : Type 0} (test : A → Bool) (n : ℕ) (xs : List A) → list_all test xs ≡ true → list_all test (take n xs) ≡ true
all_taken test zero xs h = refl
all_taken test (suc n) [] h = refl
all_taken test (suc n) (x ∷ xs) h = let a = and_parts _ _ h in and_from _ _ a.0 (all_taken test n xs a.1)

-- ---- the history

-- a segment of the origin can be written with its instant, and its break's pod too
pub record Stands (s : Marked) : Type 0 where
  pub segment : can_stand s.segment s.instant ≡ true
  pub mark : OfMark (λ (pod : Pod). pod_can_be_written pod ≡ true) s.mark

run_stands : (s : Marked) (mark : Option Mark) → can_stand s.segment s.instant ≡ true → OfMark (λ (pod : Pod). pod_can_be_written pod ≡ true) mark → list_all piece_stands (run_pieces s mark) ≡ true
run_stands s mark h k = grind (arith, and_from, list_all-reverse, ads_stand)

either_stands : (b : Bool) (pieces : List Piece) → list_all piece_stands pieces ≡ true → list_all piece_stands (cond b [] pieces) ≡ true
either_stands true pieces h = refl
either_stands false pieces h = h

pub pieces_stand : (history : List Marked) → AllByRecursion Stands history → list_all piece_stands (stitched history) ≡ true
pieces_stand [] h = refl
pieces_stand (s ∷ before) h = grind (arith, list_all-append, and_from, either_stands, run_stands, pieces_stand before h.1)

-- ---- numbered items

kept_or_not : (kept words : Bool) (s : Segment) (n : Numbers) (time : Option ℤ) → words ≡ true → can_stand s time ≡ true
    → fits_with words (cond kept s (record s { media_sequence = n.media_sequence; discontinuity_sequence = n.discontinuity_sequence; discontinuities = n.discontinuities })) time ≡ true
kept_or_not true words s n time h t = ap (λ w. fits_with w s time) h ∙ t
kept_or_not false words s n time h t = ap (λ w. fits_with w s time) h ∙ t

abbrev pub item_fits : Item → Bool
item_fits item = well_formed_segment_fits (written_item item)

pub items_fit : (first : Numbers) (pieces : List Piece) → list_all piece_stands pieces ≡ true → list_all can_be_numbered (numbered first pieces) ≡ true → list_all item_fits (numbered first pieces) ≡ true
items_fit first [] h t = refl
items_fit first (p ∷ before) h t =
    let a = and_parts _ _ h in let b = and_parts _ _ t in
    let n = numbers_at first p before in
    and_from _ _ (kept_or_not (is_kept p) (nat_lt n.media_sequence (2 ^ 64) && nat_lt n.discontinuity_sequence (2 ^ 64)) p.segment n p.instant b.0 a.0) (items_fit first before a.1 b.1)

pub all_written : (items : List Item) → list_all well_formed_segment_fits (map written_item items) ≡ list_all item_fits items
all_written [] = refl
all_written (item ∷ items) = ap (λ b. well_formed_segment_fits (written_item item) && b) (all_written items)

-- ---- the numbers follow

-- the newest first: each follows the one after it, and the last has no more steps than its discontinuity number
abbrev pub all_fall : OutSegment → List OutSegment → Bool
all_fall x [] = nat_le x.discontinuities x.discontinuity_sequence
all_fall x (y ∷ before) = follows (out_numbers y) (out_numbers x) && all_fall y before

pub turned_fit : (before : List OutSegment) (x : OutSegment) (later : List OutSegment) → all_fall x before ≡ true → all_follow out_numbers x later ≡ true → out_numbers_rise (reverse_aux before (x ∷ later)) ≡ true
turned_fit [] x later h k = and_from _ _ h k
turned_fit (y ∷ before) x later h k = let a = and_parts _ _ h in turned_fit before y (x ∷ later) a.1 (and_from _ _ a.0 k)

same : (n : ℕ) → (n == n) ≡ true
same n = grind (arith, nat_tests)

own_steps : (first : Numbers) (p : Piece) (before : List Piece) → nat_le first.discontinuities first.discontinuity_sequence ≡ true → nat_le (numbers_at first p before).discontinuities (numbers_at first p before).discontinuity_sequence ≡ true
own_steps first p [] h = h
own_steps first p (q ∷ before) h = grind arith

abbrev written_at : Numbers → Piece → List Piece → OutSegment
written_at first p before = written_item (record { piece = p; numbers = numbers_at first p before })

pub taken_fall : (first : Numbers) → nat_le first.discontinuities first.discontinuity_sequence ≡ true → (n : ℕ) (p : Piece) (before : List Piece)
    → all_fall (written_at first p before) (map written_item (take n (numbered first before))) ≡ true
taken_fall first h zero p before = own_steps first p before h
taken_fall first h (suc n) p [] = own_steps first p [] h
taken_fall first h (suc n) p (q ∷ before) = grind (arith, taken_fall first h n q before)

map_aux : {A B : Type 0} (f : A → B) (xs acc : List A) → map f (reverse_aux xs acc) ≡ reverse_aux (map f xs) (map f acc)
map_aux f [] acc = refl
map_aux f (x ∷ xs) acc = map_aux f xs (x ∷ acc)

pub window_numbers : (first : Numbers) → nat_le first.discontinuities first.discontinuity_sequence ≡ true → (n : ℕ) (pieces : List Piece) → 0 < n → 0 < length pieces
    → out_numbers_rise (map written_item (reverse (take n (numbered first pieces)))) ≡ true
window_numbers first h zero pieces k l = absurd (omega (arith, k))
window_numbers first h (suc n) [] k l = absurd (omega (arith, l))
window_numbers first h (suc n) (p ∷ before) k l = grind (arith, map_aux, turned_fit, taken_fall)

-- ---- sections

pub has_init_section_item : (item : Item) → written_segment_has_init_section (written_item item) ≡ is_some item.piece.segment.init_section
has_init_section_item item = grind arith

all_with_init_section : (outs : List OutSegment) → AllByRecursion (λ (o : OutSegment). written_segment_has_init_section o ≡ true) outs → list_all written_segment_has_init_section outs ≡ true
all_with_init_section [] h = refl
all_with_init_section (o ∷ outs) h = and_from _ _ h.0 (all_with_init_section outs h.1)

none_with_init_section : (outs : List OutSegment) → AllByRecursion (λ (o : OutSegment). written_segment_has_init_section o ≡ false) outs → list_any written_segment_has_init_section outs ≡ false
none_with_init_section [] h = refl
none_with_init_section (o ∷ outs) h = ap (λ b. b || list_any written_segment_has_init_section outs) h.0 ∙ none_with_init_section outs h.1

front : (a b : Bool) → a ≡ true → (a || b) ≡ true
front true b h = refl
front false b h = absurd (cc)

back : (a b : Bool) → b ≡ false → (a || not b) ≡ true
back true b h = refl
back false true h = absurd (cc)
back false false h = refl

pub agree : (m : Bool) (outs : List OutSegment) → AllByRecursion (λ (o : OutSegment). written_segment_has_init_section o ≡ m) outs → written_init_sections_agree outs ≡ true
agree true outs h = front _ _ (all_with_init_section outs h)
agree false outs h = grind (arith, back, none_with_init_section)
