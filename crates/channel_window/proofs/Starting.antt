-- Where a window starts, the rest that it starts with, and the window itself, from the segments that a channel holds.
use Rattle.std.proofs.Common.{◌≡◌, ℕ, ◌+◌, ◌-◌, ◌<◌, ◌≤◌, ◌^◌, false, cond, List, [], ◌∷◌, ◌++◌, map, min, drop, length, reverse, ap, sym, ◌∙◌, arith}
use Rattle.std.specs.Prelude.{◌==◌, Some, None, option_map, Result, IfErr}
use Rattle.std.specs.Result.{IsErrAnd}
use Rattle.channel_spec.specs.declared.fault.RefreshFault.{RefreshFault}
use Rattle.std.specs.List.{list_all}
use Rattle.std.proofs.lemmas.Bool.{eq-eqb}
use Rattle.playlist_model.specs.declared.Playlist.{Playlist}
use Rattle.channel_spec.specs.declared.heading.Heading.{Heading}
use Rattle.pod_store.specs.Marks.{Mark, Marked, newest_mark, mark_with, mark_in}
use Rattle.stitcher.specs.Stitched.{Numbers, Item, can_be_numbered, numbered, newest_place, up_to, from_place}
use Rattle.stitcher.specs.Paced.{PodRest, StitchedEnds, rest_pieces, stitched_with}
use Rattle.pod_store.specs.Store.{Store, pod_for}
use Rattle.stitcher.specs.declared.marked.MarkedSegment.{MarkedSegment as Held}
use Rattle.stitcher.specs.declared.OutSegment.{OutSegment}
use Rattle.stitcher.specs.declared.ends.Ends.{Ends}
use Rattle.stitcher.specs.Written.{written_item}
use Rattle.stitcher.specs.StitchedSegments.{rest_from, rest_in, ends_in, item_fits, stitched_segments, AreDecided}
use Rattle.channel_spec.specs.Successor.{first_number}
use Rattle.channel_spec.specs.Live.{item_place, gone_before, rest_over}
use Rattle.channel_spec.specs.Kept.{items_on, listed, numbers_on, start_on, next_rest, window_on}
use Rattle.channel_spec.specs.Inner.Kept.{ends_of}
use Rattle.channel_spec.specs.LastWindow.{last_pieces}
use Rattle.channel_spec.proofs.EndsLaws.{between_ends}
use Rattle.channel_window.specs.declared.state.ChannelState.{ChannelState}
use Rattle.channel_window.specs.Marking.{history_in, place_on}
use Rattle.channel_window.specs.Listed.{RefusesList}
use Rattle.channel_window.specs.Inner.Listed.{IsFront}
use Rattle.channel_window.specs.Inner.Placing.{window_rest_count}
use Rattle.channel_window.specs.Inner.Placing.{HasRoom, rest_of_newest_run}
use Rattle.channel_window.specs.Showing.{kept_in}
use Rattle.channel_window.proofs.Listed.{newest_seen}
use Rattle.channel_window.proofs.Placed.{place_is_counted}
use Rattle.channel_window.proofs.Passing.{within, front_decided}
use Rattle.channel_window.proofs.Rest.{window_is_stitched, number_range_is_stitched}

-- ---- where the item of a number stands

pub place_found : (store : Store) (number place : ℕ) (list front : List Held) → AreDecided store list → IsFront front list → history_in store front ≡ up_to number (history_in store list) → place ≡ place_on store None 0 0 front
    → item_place number (history_in store list) ≡ place
place_found store number place list front d f seen is = grind (arith, place_is_counted, front_decided)

-- ---- where the next one starts

module _ (state : ChannelState) (number : ℕ) (list : List Held) where
  pub start_later : (last : Heading) (stood start : ℕ) → state.last ≡ Some last → (number == first_number (listed (kept_in state).shown)) ≡ false → stood ≡ length (last_pieces state.last (kept_in state))
      → start ≡ min (item_place number (history_in state.store list) + window_rest_count state.store state.shown.rest) stood → start ≡ start_on state.last number (kept_in state) (history_in state.store list)
  start_later last stood start e other s is =
      let here = item_place number (history_in state.store list) + window_rest_count state.store state.shown.rest in
      let old = length (last_pieces (Some last) (kept_in state)) in
      is ∙ ap (min here) (s ∙ ap (λ o. length (last_pieces o (kept_in state))) e)
      ∙ sym (ap (λ o. start_on o number (kept_in state) (history_in state.store list)) e ∙ ap (λ t. cond t 0 (min here old)) other)

  pub start_same : (last : Heading) → state.last ≡ Some last → number ≡ first_number (listed (kept_in state).shown) → 0 ≡ start_on state.last number (kept_in state) (history_in state.store list)
  start_same last e same =
      let here = item_place number (history_in state.store list) + window_rest_count state.store state.shown.rest in
      let old = length (last_pieces (Some last) (kept_in state)) in
      sym (ap (λ o. start_on o number (kept_in state) (history_in state.store list)) e ∙ ap (λ t. cond t 0 (min here old)) (eq-eqb number (first_number (listed (kept_in state).shown)) same))

  pub rest_later : (last : Heading) (start : ℕ) → state.last ≡ Some last → (number == first_number (listed (kept_in state).shown)) ≡ false
      → rest_over (window_rest_count state.store state.shown.rest) start number (history_in state.store list) ≡ next_rest state.last (first_number (listed (kept_in state).shown)) number start (history_in state.store list) (rest_in state.store state.shown.rest)
  rest_later last start e other =
      sym (ap (λ o. next_rest o (first_number (listed (kept_in state).shown)) number start (history_in state.store list) (rest_in state.store state.shown.rest)) e
      ∙ ap (λ t. cond t (rest_in state.store state.shown.rest) (rest_over (window_rest_count state.store state.shown.rest) start number (history_in state.store list))) other)

  pub rest_same : (last : Heading) (start : ℕ) → state.last ≡ Some last → number ≡ first_number (listed (kept_in state).shown) → rest_in state.store state.shown.rest ≡ next_rest state.last (first_number (listed (kept_in state).shown)) number start (history_in state.store list) (rest_in state.store state.shown.rest)
  rest_same last start e same =
      sym (ap (λ o. next_rest o (first_number (listed (kept_in state).shown)) number start (history_in state.store list) (rest_in state.store state.shown.rest)) e
      ∙ ap (λ t. cond t (rest_in state.store state.shown.rest) (rest_over (window_rest_count state.store state.shown.rest) start number (history_in state.store list))) (eq-eqb number (first_number (listed (kept_in state).shown)) same))

-- ---- the rest that it starts with

pub rest_none : (before start number : ℕ) (seen : List Marked) → item_place number seen + before ≤ start → None ≡ rest_over before start number seen
rest_none before start number seen h = grind arith

pub rest_lower : (before start number : ℕ) (seen : List Marked) → start < item_place number seen + before → rest_of_newest_run before start (gone_before number seen) ≡ rest_over before start number seen
rest_lower before start number seen h = grind arith

pub rest_some : (store : Store) (start before behind from : ℕ) (gone rest : List Held) (m : Held) (id copy : List ℕ) → AreDecided store gone → gone ≡ rest ++ m ∷ [] → m.mark ≡ Some id → copy ≡ id
    → behind ≡ place_on store None 0 0 gone → from ≡ start - (behind + before) → option_map (rest_from from) (mark_with copy (pod_for store copy)) ≡ rest_of_newest_run before start (history_in store gone)
rest_some store start before behind from gone rest m id copy d cut is same counted is_from =
    let at : newest_place (history_in store gone) ≡ behind = place_is_counted store gone d ∙ sym counted in
    let place_is : from ≡ start - (newest_place (history_in store gone) + before) = omega (arith, is_from, at) in
    let mark : mark_with copy (pod_for store copy) ≡ newest_mark (history_in store gone) = ap (λ i. mark_in store (Some i)) same ∙ (ap (mark_in store) (sym is) ∙ sym (newest_seen store gone rest m cut)) in
    let there : ℕ → Mark → PodRest = λ k mark. record { mark = mark; place = k } in
    ap (λ k. option_map (there k) (mark_with copy (pod_for store copy))) place_is
    ∙ ap (option_map (there (start - (newest_place (history_in store gone) + before)))) mark

pub no_rest : (store : Store) (start before : ℕ) (gone : List Held) → newest_mark (history_in store gone) ≡ None → None ≡ rest_of_newest_run before start (history_in store gone)
no_rest store start before gone e = grind arith

-- ---- the window

-- a fault is handed on
pub handed_on : {A : Type 0} (r : Result A RefreshFault) (e : RefreshFault) {P Q : Type 0} → IsErrAnd r (λ d. d ≡ e) → RefusesList e P → (P → Q) → IfErr r (λ d. RefusesList d Q)
handed_on k e h p f = grind arith

module _ (state : ChannelState) (p : Playlist) (list : List Held) (n : ℕ) (ends : Ends) (first : Numbers) (decided : AreDecided state.store list)
    (ends_are : ends_in state.store ends ≡ ends_of p.end_list n (rest_in state.store state.shown.rest)) (first_is : first ≡ numbers_on state.last state.shown.numbers (history_in state.store list)) where
  abbrev seen : List Marked
  seen = history_in state.store list

  items_are : numbered first (stitched_with (ends_in state.store ends) seen) ≡ items_on (kept_in state) p seen n
  items_are =
      ap (λ (f : Numbers). numbered f (stitched_with (ends_in state.store ends) seen)) first_is
      ∙ ap (numbered (numbers_on state.last state.shown.numbers seen)) (ap (λ (e : StitchedEnds). stitched_with e seen) ends_are ∙ sym (between_ends p.end_list n seen (rest_in state.store state.shown.rest)))

  pub fit_is : list_all item_fits (stitched_segments state.store first ends list) ≡ list_all can_be_numbered (items_on (kept_in state) p seen n)
  fit_is = number_range_is_stitched state.store first ends list ∙ ap (list_all can_be_numbered) items_are

  pub whole_is : (items : List OutSegment) → items ≡ stitched_segments state.store first ends list → items ≡ map written_item (reverse (items_on (kept_in state) p seen n))
  whole_is items items_is = items_is ∙ ap (λ (xs : List Item). map written_item (reverse xs)) items_are

  pub window_left : (items : List OutSegment) (start : ℕ) → items ≡ stitched_segments state.store first ends list → start ≤ length items → start ≡ start_on state.last (first_number p.segments) (kept_in state) seen
      → drop start items ≡ map written_item (window_on (kept_in state) p seen n)
  window_left items start items_is h start_is =
      ap (drop start) items_is
      ∙ (sym (window_is_stitched state.store first ends list start (omega (arith, h, ap length items_is)))
      ∙ (ap (λ (xs : List Item). map written_item (reverse (from_place start xs))) items_are
      ∙ ap (λ k. map written_item (reverse (from_place k (items_on (kept_in state) p seen n)))) start_is))

  pub room_left : (items : List OutSegment) → items ≡ stitched_segments state.store first ends list → (front : List Held) → IsFront front list → place_on state.store None 0 0 front + window_rest_count state.store state.shown.rest ≤ length items
  room_left items items_is front f =
      let same : window_rest_count state.store ends.rest ≡ window_rest_count state.store state.shown.rest = ap (λ (e : StitchedEnds). length (rest_pieces e.rest)) ends_are in
      omega (arith, within state.store first ends list front decided f, same, ap length items_is)

  pub has_room : (items : List OutSegment) → items ≡ stitched_segments state.store first ends list → length items < 2 ^ 64 → HasRoom state.store state.shown.rest list
  has_room items items_is h front f = omega (arith, room_left items items_is front f, h)
