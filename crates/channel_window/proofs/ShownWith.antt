-- The segments that are shown after a refresh, from those that a channel holds.
use Rattle.std.proofs.Common.{◌≡◌, ℕ, ℤ, List, [], ◌∷◌, ◌++◌, map, length, refl, ap, sym, ◌∙◌, subst, arith}
use Rattle.std.specs.Prelude.{Option, Some, None, IsSome, option_map, filter}
use mathlib.Core.List.{reverse_aux}
use Rattle.playlist_model.specs.LookBack.{or_earlier}
use Rattle.playlist_model.specs.declared.Playlist.{Playlist}
use Rattle.playlist_model.specs.Segments.{Segment}
use Rattle.playlist_model.specs.Instants.{instants_after}
use Rattle.break_finder.specs.Breaks.{Break}
use Rattle.pod_store.specs.Pods.{Pod}
use Rattle.pod_store.specs.Marks.{Mark, Marked, newest_mark, mark_with, mark_in}
use Rattle.pod_store.specs.Store.{Store, pod_for}
use Rattle.stitcher.specs.declared.marked.MarkedSegment.{MarkedSegment as Held}
use Rattle.stitcher.specs.StitchedSegments.{meant, IsDecided, AreDecided, KnowRuns, KnowCommon, KnowPrevious}
use Rattle.stitcher.specs.Inner.StitchedSegments.{KnowAgainWithin}
use Rattle.stitcher.specs.Inner.Making.{mark_after}
use Rattle.break_finder.specs.Known.{is_this_break, carry}
use Rattle.channel_spec.specs.Successor.{has_init_sections}
use Rattle.channel_spec.specs.Marking.{Moment, mark_id, last_mark, last_entered, is_new, newest_end}
use Rattle.channel_spec.specs.Live.{is_mark_of}
use Rattle.channel_spec.specs.Kept.{show_on, length_on, kept_acceptance}
use Rattle.channel_window.specs.declared.state.ChannelState.{ChannelState}
use Rattle.channel_window.specs.declared.showing.Showing.{Showing}
use Rattle.channel_window.specs.Marking.{Hint, history_in, mark_on, length_after}
use Rattle.channel_window.specs.Inner.Terms.{entered_after}
use Rattle.channel_window.specs.Checked.{AreContiguous}
use Rattle.channel_window.specs.Listed.{RisesOn}
use Rattle.channel_window.proofs.Marked.{know_runs}
use Rattle.stitcher.proofs.Known.{known_previous_after}
use Rattle.channel_window.proofs.Rising.{rises_on}
use Rattle.channel_window.proofs.Listed.{seen_after, all_after, is_listed, is_decided, is_long}
use Rattle.channel_window.specs.Showing.{kept_in, IsLastEntered, IsShown}

-- ---- the mark that is carried

pod_marks : (id : List ℕ) (o : Option Pod) → IsSome o → option_map mark_id (mark_with id o) ≡ Some id
pod_marks id None h = absurd (cc)
pod_marks id (Some pod) h = refl

mark_named : (store : Store) (o : Option (List ℕ)) → IsDecided store o → option_map mark_id (mark_in store o) ≡ o
mark_named store None h = refl
mark_named store (Some id) h = pod_marks id (pod_for store id) h

pub marked_too : (store : Store) (id : List ℕ) (o : Option (List ℕ)) → IsDecided store o → is_mark_of id (mark_in store o) ≡ is_this_break id o
marked_too store id o d = ap (is_this_break id) (mark_named store o d)

-- ---- the last break entered

one_entered : (o x : Option Mark) (id last e : Option (List ℕ)) → option_map mark_id o ≡ id → or_earlier (option_map mark_id x) last ≡ e → or_earlier (option_map mark_id (or_earlier o x)) last ≡ or_earlier id e
one_entered None x id last e is h = h ∙ ap (λ i. or_earlier i e) is
one_entered (Some mark) x id last e is h = ap (λ i. or_earlier i e) is

-- the last break entered, with these segments after others
last_onto : (store : Store) (marked : List Held) (before : List Marked) (last e : Option (List ℕ)) → AreDecided store marked → or_earlier (last_entered before) last ≡ e
    → or_earlier (last_entered (reverse_aux (map (meant store) marked) before)) last ≡ entered_after e marked
last_onto store [] before last e d h = h
last_onto store (m ∷ later) before last e d h =
    last_onto store later (meant store m ∷ before) last (or_earlier m.mark e) d.1
    (one_entered (mark_in store m.mark) (last_mark before) m.mark last e (mark_named store m.mark d.0) h)

-- ---- what is shown

-- the known breaks, and the segments that were shown with the new ones, if the shown segments are handed on as a list
module _ (tolerance : ℕ) (state : ChannelState) (p : Playlist) (shown : List Held) (newest : Option (List ℕ)) (fresh : List Segment) (ended : Option ℤ) (begun : List (Option ℤ)) (hints : List Hint) (marked : List Held) (a : Showing)
    (before : AreDecided state.store state.list) (last_is : IsLastEntered (kept_in state)) (same : shown ≡ state.list)
    (mark_is : newest_mark (history_in state.store shown) ≡ mark_in state.store newest) (newest_is : AreDecided state.store shown → IsDecided state.store newest)
    (breaks_are : a.knowledge ≡ carry (record { playlist = p; carried = newest }) state.shown.knowledge) (fresh_is : fresh ≡ filter (is_new (history_in state.store shown)) p.segments)
    (ended_is : ended ≡ newest_end (history_in state.store shown)) (begun_is : begun ≡ instants_after ended fresh)
    (marked_is : marked ≡ mark_on (record { tolerance = tolerance; target_duration = p.target_duration; with_init_sections = has_init_sections p.segments; breaks = a.knowledge; store = state.store }) newest state.shown.entered hints fresh begun)
    (held : List Held) (list_is : held ≡ shown ++ marked) (contiguous : AreContiguous p.segments) (rises : RisesOn state.list p.segments) (entered_is : a.entered ≡ entered_after state.shown.entered marked)
    (known : KnowPrevious state.list) (common : (before : Option Segment) → KnowCommon before marked) (again : KnowAgainWithin marked) (newest_last : newest ≡ mark_after None shown) where
  abbrev store : Store
  store = state.store

  abbrev moment : List Break → Moment
  moment breaks = record { tolerance = tolerance; target_duration = p.target_duration; with_init_sections = has_init_sections p.segments; breaks = breaks; store = store }

  decided : AreDecided store shown
  decided = subst (AreDecided store) (sym same) before

  shown_rises : RisesOn shown p.segments
  shown_rises = subst (λ xs. RisesOn xs p.segments) (sym same) rises

  breaks_kept : a.knowledge ≡ carry (kept_acceptance (kept_in state) p) state.shown.knowledge
  breaks_kept =
      breaks_are
      ∙ ap (λ o. carry (record { playlist = p; carried = o }) state.shown.knowledge)
      (sym (ap (λ (xs : List Held). option_map mark_id (newest_mark (history_in store xs))) (sym same) ∙ ap (option_map mark_id) mark_is ∙ mark_named store newest (newest_is decided)))

  marked_know : KnowRuns (mark_after None shown) marked
  marked_know =
      subst (λ id. KnowRuns id marked) newest_last
      (subst (KnowRuns newest) (sym marked_is) (know_runs (moment a.knowledge) newest state.shown.entered hints fresh begun))

  list_decided : AreDecided store held
  list_decided = is_decided (moment a.knowledge) shown newest state.shown.entered hints p.segments fresh ended begun marked held mark_is (newest_is decided) decided ended_is fresh_is begun_is marked_is list_is

  last_entered_is : a.entered ≡ or_earlier (last_entered (history_in store held)) state.shown.entered
  last_entered_is =
      let before_is : or_earlier (last_entered (history_in store shown)) state.shown.entered ≡ state.shown.entered =
      ap (λ (xs : List Held). or_earlier (last_entered (history_in store xs)) state.shown.entered) same ∙ last_is in
      let marked_decided = (all_after (λ (h : Held). IsDecided store h.mark) shown marked (subst (AreDecided store) list_is list_decided)).1 in
      entered_is
      ∙ sym (ap (λ (seen : List Marked). or_earlier (last_entered seen) state.shown.entered) (ap (history_in store) list_is ∙ seen_after store shown marked)
      ∙ last_onto store marked (history_in store shown) state.shown.entered state.shown.entered marked_decided before_is)

  pub shown_is : (a.fresh ≡ length fresh) → a.so_far ≡ length_after store newest state.shown.so_far marked → IsShown tolerance state p held a
  shown_is count long = record {
    breaks = breaks_kept;
    list =
        is_listed (moment a.knowledge) shown newest state.shown.entered hints p.segments fresh ended begun marked held mark_is (newest_is decided) decided ended_is fresh_is begun_is marked_is list_is
        ∙ (ap (λ (xs : List Held). show_on (moment a.knowledge) (history_in store xs) state.shown.entered (filter (is_new (history_in store xs)) p.segments)) same
        ∙ ap (λ b. show_on (moment b) (history_in store state.list) state.shown.entered (filter (is_new (history_in store state.list)) p.segments)) breaks_kept);
    fresh = count ∙ (ap length fresh_is ∙ ap (λ (xs : List Held). length (filter (is_new (history_in store xs)) p.segments)) same);
    entered = last_entered_is;
    length =
        is_long (moment a.knowledge) shown newest state.shown.entered hints p.segments fresh ended begun marked held mark_is (newest_is decided) decided ended_is fresh_is begun_is marked_is list_is state.shown.so_far a.so_far long
        ∙ (ap (λ (xs : List Held). length_on (moment a.knowledge) (history_in store xs) state.shown.entered state.shown.so_far (filter (is_new (history_in store xs)) p.segments)) same
        ∙ ap (λ b. length_on (moment b) (history_in store state.list) state.shown.entered state.shown.so_far (filter (is_new (history_in store state.list)) p.segments)) breaks_kept);
    decided = list_decided;
    previous = subst KnowPrevious (sym list_is) (known_previous_after shown marked (subst KnowPrevious (sym same) known) marked_know common again);
    rising = rises_on (moment a.knowledge) shown newest state.shown.entered hints p.segments fresh begun marked held shown_rises contiguous fresh_is marked_is list_is;
  }

-- the newest mark, if any, is that of the last break entered
pub newest_entered : (state : ChannelState) (shown : List Held) (newest : Option (List ℕ)) → shown ≡ state.list → AreDecided state.store state.list → IsLastEntered (kept_in state)
    → newest_mark (history_in state.store shown) ≡ mark_in state.store newest → (AreDecided state.store shown → IsDecided state.store newest) → or_earlier newest state.shown.entered ≡ state.shown.entered
newest_entered state shown newest same d last mark_is newest_is = grind arith
