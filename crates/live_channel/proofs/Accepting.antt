-- An accepted refresh, from the segments that a channel holds.
use Rattle.std.proofs.Common.{zero, suc, drop, take, ◌≡◌, ℕ, ◌||◌, ◌++◌, List, [], ◌∷◌, map, length, refl, ap, sym, ◌∙◌, subst, arith}
use Rattle.std.specs.Prelude.{Bool, is_some, Option, Some, Result, Ok, Err, IfOk, OnOk}
use Rattle.playlist_model.specs.declared.DateRange.{DateRange}
use Rattle.pod_store.specs.Inner.Store.{NameTheSame}
use Rattle.break_finder.proofs.TagIds.{filter_same}
use Rattle.std.specs.List.{list_any}
use Rattle.std.proofs.lemmas.List.{take_at}
use Rattle.playlist_model.specs.declared.Playlist.{Playlist}
use Rattle.pod_store.specs.Marks.{Marked}
use Rattle.stitcher.specs.Stitched.{Numbers, Item}
use Rattle.playlist_write.specs.Owed.{playlist_text}
use Rattle.pod_store.specs.Store.{Store}
use Rattle.stitcher.specs.declared.OutSegment.{OutSegment}
use Rattle.stitcher.specs.declared.marked.MarkedSegment.{MarkedSegment as Held}
use Rattle.stitcher.specs.StitchedSegments.{AreDecided}
use Rattle.stitcher.specs.Written.{written_item}
use Rattle.channel_spec.specs.declared.fault.RefreshFault.{RefreshFault}
use Rattle.channel_spec.specs.declared.heading.Heading.{Heading}
use Rattle.channel_spec.specs.Successor.{owed_heading_of}
use Rattle.playlist_write.specs.declared.resumed.WrittenText.{WrittenText}
use Rattle.channel_spec.specs.Live.{states_instant, date_ranges_left}
use Rattle.channel_spec.specs.Kept.{Kept, head_numbers, window_on, items_on, kept_items, kept_list, kept_length}
use Rattle.channel_spec.specs.Live.{date_range_text}
use Rattle.channel_window.specs.Marking.{history_in}
use Rattle.channel_window.specs.Showing.{AreKept, kept_in, IsShown}
use Rattle.channel_window.specs.declared.showing.Showing.{Showing}
use Rattle.channel_window.specs.declared.state.ChannelState.{ChannelState}
use Rattle.channel_window.specs.Listed.{head_of, writes_time}
use Rattle.owed_is_denoted.specs.Owed.{out_playlist}
use Rattle.break_finder.specs.Breaks.{Break}
use Rattle.live_channel.specs.declared.channel.Refreshed.{Refreshed}
use Rattle.live_channel.specs.declared.next.NextState.{NextState}
use Rattle.live_channel.specs.Channel.{fresh_after}
use Rattle.live_channel.specs.Inner.Accepting.{breaks_after, text_with_window, state_with, accepted_state, Accepts, FollowsLastPlaylist, HasGrown, IsNext, IsReady, IsAccepted}
use Rattle.live_channel.specs.Inner.LastText.{StoodIn}

-- ---- items

pub heads : (items : List Item) → head_of (map written_item items) ≡ head_numbers items
heads [] = refl
heads (item ∷ later) = refl

timed : (items : List Item) → list_any writes_time (map written_item items) ≡ list_any states_instant items
timed [] = refl
timed (item ∷ later) = ap (λ b. is_some item.piece.instant || b) (timed later)

-- ---- what is written of it

-- the same date ranges are left by another list of the same breaks
left_alike : (timed : Bool) (short long : List (List ℕ)) (date_ranges : List DateRange) → NameTheSame short long → date_ranges_left timed short date_ranges ≡ date_ranges_left timed long date_ranges
left_alike timed short long date_ranges same = grind (arith, filter_same)

module _ (state : ChannelState) (p : Playlist) (held : List Held) (n : ℕ) where
  abbrev seen : List Marked
  seen = history_in state.store held

  abbrev window : List Item
  window = window_on (kept_in state) p seen n

  pub text_seen : (items : List OutSegment) (breaks : List (List ℕ)) (text : List ℕ) → items ≡ map written_item window → NameTheSame breaks (breaks_after (kept_in state) p seen)
      → text ≡ playlist_text (out_playlist p (map date_range_text (date_ranges_left (list_any writes_time items) breaks p.date_ranges)) items)
      → text ≡ text_with_window p (breaks_after (kept_in state) p seen) window
  text_seen items breaks text w u t =
      let stated : list_any writes_time items ≡ list_any states_instant window = ap (list_any writes_time) w ∙ timed window in
      t
      ∙ (ap (λ os. playlist_text (out_playlist p (map date_range_text (date_ranges_left (list_any writes_time items) breaks p.date_ranges)) os)) w
      ∙ (ap (λ b. playlist_text (out_playlist p (map date_range_text (date_ranges_left b breaks p.date_ranges)) (map written_item window))) stated
      ∙ ap (λ rs. playlist_text (out_playlist p (map date_range_text rs) (map written_item window))) (left_alike (list_any states_instant window) breaks (breaks_after (kept_in state) p seen) p.date_ranges u)))

  pub numbers_seen : (items : List OutSegment) (k : Numbers) → items ≡ map written_item window → k ≡ head_of items → k ≡ head_numbers window
  numbers_seen items k w h = h ∙ (ap head_of w ∙ heads window)

-- the segments that stay are decided
pub decided_later : (count : ℕ) (store : Store) (held : List Held) → AreDecided store held → AreDecided store (drop count held)
decided_later zero store held d = d
decided_later (suc n) store [] d = tt
decided_later (suc n) store (m ∷ later) d = decided_later n store later d.1

-- ---- what is shown is what is to be shown

module _ (tolerance : ℕ) (state : ChannelState) (p : Playlist) (held : List Held) (showing : Showing) (next : NextState) (shown : IsShown tolerance state p held showing) where
  abbrev kept : Kept
  kept = kept_in state

  pub accepted : IsNext kept p showing.knowledge held (history_in state.store held) showing.so_far showing.fresh next → IsAccepted tolerance kept p held next
  accepted n =
      subst (λ (breaks : List Break). IsNext kept p breaks held (kept_list tolerance kept p) (kept_length tolerance kept p) (fresh_after kept.shown p) next) shown.breaks
      (subst (λ (list : List Marked). IsNext kept p showing.knowledge held list (kept_length tolerance kept p) (fresh_after kept.shown p) next) shown.list
      (subst (λ (so_long : ℕ). IsNext kept p showing.knowledge held (history_in state.store held) so_long (fresh_after kept.shown p) next) shown.length
      (subst (λ (fresh : ℕ). IsNext kept p showing.knowledge held (history_in state.store held) showing.so_far fresh next) shown.fresh n)))

pub items_kept : (tolerance : ℕ) (state : ChannelState) (p : Playlist) (held : List Held) (showing : Showing) → IsShown tolerance state p held showing
    → items_on (kept_in state) p (history_in state.store held) showing.so_far ≡ kept_items tolerance (kept_in state) p
items_kept tolerance state p held showing shown = grind arith

-- so it is whatever the segments were put behind
pub accepted_as : (tolerance : ℕ) (state before : ChannelState) (p : Playlist) (held list : List Held) (showing : Showing) (result : Result NextState RefreshFault) → IsShown tolerance state p held showing → before ≡ state → list ≡ held
    → IfOk result (λ next. IsNext (kept_in before) p showing.knowledge list (history_in before.store list) showing.so_far showing.fresh next) → IfOk result (λ next. IsAccepted tolerance (kept_in state) p held next)
accepted_as tolerance state before p held list showing result shown e f n = grind arith

-- the first of them alone are those that were shown before
pub before_is : (state before : ChannelState) (come list : List Held) (stood : ℕ) → stood ≡ length state.list → list ≡ state.list ++ come → before ≡ record state { list = take stood list } → before ≡ state
before_is state before come list stood long list_is is = grind (arith, take_at)

-- what is to hold when the window is written holds if these segments were put behind those that are shown
pub ready : (tolerance : ℕ) (state before : ChannelState) (p : Playlist) (come list : List Held) (showing : Showing) (written : Option WrittenText) → before ≡ state → list ≡ state.list ++ come → IsShown tolerance state p (state.list ++ come) showing
    → StoodIn (kept_in state) (kept_items tolerance (kept_in state) p) written → AreKept state.store state → IsReady before written p list showing.entered showing.so_far
ready tolerance state before p come list showing written e f shown stood kept = grind (arith, items_kept, take_at)

-- ---- a refresh is accepted

pub accepts : (tolerance : ℕ) (old grown new : ChannelState) (p : Playlist) (last : Heading) (next : NextState) (written : Option WrittenText) (result : Result Refreshed RefreshFault) → HasGrown old grown → FollowsLastPlaylist tolerance (kept_in old) p grown.list next → last ≡ owed_heading_of p
    → OnOk result (new ≡ state_with grown last next) → IfOk result (λ done. done ≡ next.refreshed) → OnOk result (written ≡ Some next.written) → IfOk result (λ done. Accepts tolerance old p new written done)
accepts tolerance old grown new p last next written (Ok done) (come, is) follows same state answer text = record {
  held = grown.list;
  next = next;
  follows = follows;
  state_is = state ∙ (ap (λ h. state_with grown h next) same ∙ ap (λ (x : ChannelState). accepted_state x p next) (is ∙ sym (ap (λ (x : ChannelState). record old { list = x.list }) is)));
  written_is = text;
  done_is = answer;
}
accepts tolerance old grown new p last next written (Err fault) grows follows same state answer text = state
