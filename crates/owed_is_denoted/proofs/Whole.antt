-- What is owed is well formed, and its text denotes it.
use Rattle.std.proofs.Common.{◌≡◌, ℕ, ◌-◌, Bool, true, false, cond, zero, suc, List, [], ◌∷◌, map, take, length, refl, ap, sym, ◌∙◌, inl, inr, arith}
use Rattle.std.specs.Prelude.{Option, Some, None, Ok, max, is_none, is_some, not, filter}
use Rattle.std.specs.List.{list_all, list_any, flat_map, AllByRecursion}
use Rattle.std.proofs.lemmas.Bool.{and_from, and_parts}
use Rattle.std.proofs.lemmas.Bool.Decides.{nat_tests}
use mathlib.Core.List.{reverse_aux}
use Rattle.playlist_model.specs.declared.DateRange.{DateRange}
use Rattle.playlist_model.specs.declared.Playlist.{Playlist}
use Rattle.playlist_model.specs.LookBack.{or_earlier}
use Rattle.playlist_model.specs.Reading.{limited, unlimited}
use Rattle.playlist_model.specs.Said.{Reader}
use Rattle.pod_store.specs.Marks.{Marked}
use Rattle.stitcher.specs.Stitched.{Piece, Numbers, Item, numbered, stitched, can_be_numbered, first_numbers}
use Rattle.stitcher.specs.Paced.{due_stitched, due_list}
use Rattle.std.proofs.lemmas.List.Folds.{list_all-append}
use Rattle.stitcher.specs.declared.OutSegment.{OutSegment}
use Rattle.stitcher.specs.Written.{written_item}
use Rattle.writable.specs.Fitting.{date_range_fits, says_date_range}
use Rattle.playlist_write.specs.WellFormed.{written_version_fits, well_formed_segment_fits, written_segment_has_init_section, well_formed}
use Rattle.playlist_write.specs.Denoted.{denoted, denoted_segment, denoted_date_range}
use Rattle.playlist_write.proofs.Whole.{text_denotes}
use Rattle.read_is_writable.specs.Read.{version_reads, IsSaidBy, text_is_clean}
use Rattle.channel_spec.specs.declared.fault.RefreshFault.TheVariants.{NumberRange}
use Rattle.channel_spec.specs.Successor.{first_number, fault_if}
use Rattle.channel_spec.specs.Successor as successor
use Rattle.channel_spec.specs.Live.{refreshed, Told, told, refusal, succession_fault, last_playlist, after_refresh, breaks_in_use, item_segment, states_instant, window_after, written_date_ranges, owed_for}
use Rattle.channel_spec.proofs.Windows.{In}
use Rattle.channel_spec.proofs.Fills.{HaveInitSections}
use Rattle.channel_spec.proofs.Due.{list_rest}
use Rattle.channel_spec.proofs.EachWindow.{WindowStanding, WindowOf, start_inside, due_have_init_sections, refresh_holds, holds}
use Rattle.owed_is_denoted.specs.Owed.{owed_playlist}
use Rattle.channel_spec.specs.Live.{date_range_text}
use Rattle.channel_spec.proofs.Reversed.{list_all-reverse}
use Rattle.owed_is_denoted.specs.Laws.{CanBeRead, OwedIsWellFormed, OwedIsDenoted, TextDenotesOwed}
use Rattle.pod_store.specs.Store.{is_one_of}
use Rattle.owed_is_denoted.proofs.AllPods.{all_filter}
use Rattle.owed_is_denoted.proofs.Pieces.{all_taken, piece_stands, pieces_stand, item_fits, items_fit, all_written, window_numbers, has_init_section_item, agree}
use Rattle.owed_is_denoted.proofs.Told.{Good, refresh_good, good_told}
use Rattle.owed_is_denoted.proofs.Given.{is_read, all_given}

length-numbered : (first : Numbers) (pieces : List Piece) → length (numbered first pieces) ≡ length pieces
length-numbered first [] = refl
length-numbered first (p ∷ before) = ap suc (length-numbered first before)

-- ---- lists

all_turned : {A : Type 0} (P : A → Type 0) (xs acc : List A) → AllByRecursion P xs → AllByRecursion P acc → AllByRecursion P (reverse_aux xs acc)
all_turned P [] acc h k = k
all_turned P (x ∷ xs) acc h k = all_turned P xs (x ∷ acc) h.1 (h.0, k)

all_first : {A : Type 0} (P : A → Type 0) (n : ℕ) (xs : List A) → AllByRecursion P xs → AllByRecursion P (take n xs)
all_first P zero xs h = tt
all_first P (suc n) [] h = tt
all_first P (suc n) (x ∷ xs) h = (h.0, all_first P n xs h.1)

list_filter : {A : Type 0} (test keep : A → Bool) (xs : List A) → list_all test xs ≡ true → list_all test (filter keep xs) ≡ true
list_filter test keep [] h = refl
list_filter test keep (x ∷ xs) h = let a = and_parts _ _ h in step (keep x) a.0 (list_filter test keep xs a.1)
  where
    step : (b : Bool) → test x ≡ true → list_all test (filter keep xs) ≡ true → list_all test (cond b (x ∷ filter keep xs) (filter keep xs)) ≡ true
    step true e f = and_from _ _ e f
    step false e f = f

-- ---- sections

items_have_init_sections : (m : Bool) (first : Numbers) (pieces : List Piece) → HaveInitSections m pieces → AllByRecursion (λ (item : Item). is_some item.piece.segment.init_section ≡ m) (numbered first pieces)
unfolding HaveInitSections In
items_have_init_sections m first [] h = tt
items_have_init_sections m first (p ∷ before) h = (h p (inl refl), items_have_init_sections m first before (λ q k. h q (inr k)))

outs_have_init_sections : (m : Bool) (items : List Item) → AllByRecursion (λ (item : Item). is_some item.piece.segment.init_section ≡ m) items → AllByRecursion (λ (o : OutSegment). written_segment_has_init_section o ≡ m) (map written_item items)
outs_have_init_sections m [] h = tt
outs_have_init_sections m (item ∷ items) h = (has_init_section_item item ∙ h.0, outs_have_init_sections m items h.1)

-- ---- date ranges

version_owed : (v : ℕ) → version_reads v ≡ true → written_version_fits (max v 6) ≡ true
version_owed v h = grind (arith, nat_tests)

date_ranges_fit : (date_ranges : List DateRange) → AllByRecursion (IsSaidBy limited) date_ranges → list_all text_is_clean date_ranges ≡ true → list_all date_range_fits (map date_range_text date_ranges) ≡ true
date_ranges_fit [] said clean = refl
date_ranges_fit (r ∷ later) (here, rest) clean =
    let c = and_parts _ _ clean in and_from _ _ (and_from _ _ c.0 (ap says_date_range here)) (date_ranges_fit later rest c.1)

some_said : (P : DateRange → Type 0) (b : Bool) (date_ranges : List DateRange) → AllByRecursion P date_ranges → AllByRecursion P (cond b date_ranges [])
some_said P true date_ranges h = h
some_said P false date_ranges h = tt

some_clean : (b : Bool) (date_ranges : List DateRange) → list_all text_is_clean date_ranges ≡ true → list_all text_is_clean (cond b date_ranges []) ≡ true
some_clean true date_ranges h = h
some_clean false date_ranges h = refl

date_ranges_said : (date_ranges : List DateRange) → AllByRecursion (IsSaidBy unlimited) date_ranges → flat_map denoted_date_range (map date_range_text date_ranges) ≡ date_ranges
date_ranges_said [] h = refl
date_ranges_said (r ∷ later) (here, rest) = grind (arith, date_ranges_said later rest)

module _ (t : Told) (p : Playlist) where
  abbrev stated : Bool
  stated = list_any states_instant (window_after t p)

  abbrev others : DateRange → Bool
  others r = not (is_one_of (breaks_in_use t.start (first_number p.segments) t.history) r.id)

  written_said : (reader : Reader) → AllByRecursion (IsSaidBy reader) p.date_ranges → AllByRecursion (IsSaidBy reader) (written_date_ranges t p)
  written_said reader h = some_said (IsSaidBy reader) stated (filter others p.date_ranges) (all_filter (IsSaidBy reader) others p.date_ranges h)

  written_clean : list_all text_is_clean p.date_ranges ≡ true → list_all text_is_clean (written_date_ranges t p) ≡ true
  written_clean h = some_clean stated (filter others p.date_ranges) (list_filter text_is_clean others p.date_ranges h)

-- ---- well formed

-- what is due of the list can be written if all of it can
due_stands : (ended : Bool) (history : List Marked) → list_all piece_stands (stitched history) ≡ true → list_all piece_stands (due_stitched ended history) ≡ true
due_stands ended history h =
    let r = list_rest ended history in
    (and_parts _ _ (sym (list_all-append piece_stands r.rest (due_stitched ended history)) ∙ (ap (list_all piece_stands) (sym r.is) ∙ h))).1

well : (t : Told) (p : Playlist) → Good t → WindowStanding p t.history t.start → CanBeRead p → list_all can_be_numbered (due_list p.end_list t.history) ≡ true → well_formed (owed_playlist t p) ≡ true
well t p g s r f =
    let first = first_numbers t.history in
    let pieces = due_stitched p.end_list t.history in
    let list = due_list p.end_list t.history in
    let n = length list - t.start in
    let inside = start_inside p t.history t.start s p.end_list in
    let size = length-numbered first pieces in
    let m = successor.has_init_sections p.segments in
    let items = items_fit first pieces (due_stands p.end_list t.history (pieces_stand t.history g.stands)) f in
    let segments : list_all well_formed_segment_fits (map written_item (window_after t p)) ≡ true =
    all_written (window_after t p) ∙ (list_all-reverse item_fits (take n list) ∙ all_taken item_fits n list items) in
    let numbers = window_numbers first g.first n pieces (omega (arith, inside, size)) (omega (arith, inside)) in
    let with_init_sections = outs_have_init_sections m (window_after t p)
    (all_turned (λ (item : Item). is_some item.piece.segment.init_section ≡ m) (take n list) []
    (all_first (λ (item : Item). is_some item.piece.segment.init_section ≡ m) n list (items_have_init_sections m first pieces (due_have_init_sections m p.end_list t.history s.standing.alike))) tt) in
    and_from _ _
    (and_from _ _ (and_from _ _ (and_from _ _ (and_from _ _ (version_owed p.version r.limits.version) r.limits.target_duration) numbers) segments) (agree m (map written_item (window_after t p)) with_init_sections))
    (date_ranges_fit (written_date_ranges t p) (written_said t p limited r.limits.date_ranges) (written_clean t p r.limits.date_range_texts))

or_none : {A : Type 0} (a b : Option A) → or_earlier a b ≡ None → (a ≡ None) × (b ≡ None)
or_none None b e = (refl, e)
or_none (Some x) b e = absurd (cc)

within : (b : Bool) → fault_if (not b) NumberRange ≡ None → b ≡ true
within true e = refl
within false e = absurd (cc)

accepted : (tolerance : ℕ) (t : Told) (p : Playlist) → refusal tolerance t p ≡ None → (succession_fault (last_playlist t.accepted) p ≡ None) × (list_all can_be_numbered (due_list p.end_list (after_refresh tolerance t p).history) ≡ true)
accepted tolerance t p e = grind arith

now : (tolerance : ℕ) (t : Told) (p : Playlist) → refusal tolerance t p ≡ None → cond (is_none (refusal tolerance t p)) (after_refresh tolerance t p) t ≡ after_refresh tolerance t p
now tolerance t p e = ap (λ o. cond (is_none o) (after_refresh tolerance t p) t) e

pub owed_is_well_formed : OwedIsWellFormed
unfolding WindowOf
owed_is_well_formed tolerance p before g e =
    let t = told tolerance before in
    let a = accepted tolerance t p e in
    let h = holds tolerance before (all_given before g.1) in
    let good = refresh_good tolerance t p (good_told tolerance before g.1) g.0 in
    let s = (refresh_holds tolerance t p h (is_read p g.0.limits) a.0).standing in
    ap (λ u. well_formed (owed_playlist u p)) (now tolerance t p e) ∙ well (after_refresh tolerance t p) p good s g.0 a.1

-- ---- denoted

segments_denoted : (items : List Item) → map denoted_segment (map written_item items) ≡ map item_segment items
segments_denoted [] = refl
segments_denoted (item ∷ items) = grind (arith, segments_denoted items)

pub denotes_owed : (t : Told) (p : Playlist) → CanBeRead p → denoted (owed_playlist t p) ≡ owed_for t p
denotes_owed t p r =
    ap (λ date_ranges. record (denoted (owed_playlist t p)) { date_ranges = date_ranges }) (date_ranges_said (written_date_ranges t p) (written_said t p unlimited r.denotes.date_ranges))
    ∙ ap (λ segments. record (owed_for t p) { segments = segments }) (segments_denoted (window_after t p))

pub owed_is_denoted : OwedIsDenoted
owed_is_denoted tolerance p before r = denotes_owed (told tolerance before) p r

pub text_denotes_owed : TextDenotesOwed
text_denotes_owed tolerance p before base g e =
    let t = told tolerance (refreshed p ∷ before) in
    text_denotes base (owed_playlist t p) (owed_is_well_formed tolerance p before g e) ∙ ap Ok (denotes_owed t p g.0)
