-- The numbers of the shown segments rise by one, and a playlist that may follow leaves none out.
use Rattle.std.proofs.Common.{◌≡◌, ℕ, ◌+◌, ◌≤◌, List, [], ◌∷◌, map, length, refl, ap, sym, ◌∙◌, subst, arith}
use Rattle.std.specs.Prelude.{None, Ok}
use Rattle.std.proofs.lemmas.List.{length-map, length-reverse}
use mathlib.Core.List.{reverse_aux}
use Rattle.url.specs.Parts.{Parts}
use Rattle.playlist_model.specs.declared.Playlist.{Playlist}
use Rattle.playlist_model.specs.Segments.{Segment}
use Rattle.pod_store.specs.Marks.{Marked}
use Rattle.pod_store.specs.Store.{Store}
use Rattle.stitcher.specs.declared.marked.MarkedSegment.{MarkedSegment as Held}
use Rattle.stitcher.specs.StitchedSegments.{meant}
use Rattle.break_finder.specs.Known.{Accepted}
use Rattle.channel_spec.specs.Live.{last_playlist, succession_fault}
use Rattle.channel_spec.specs.Successor.{first_number}
use Rattle.channel_spec.specs.Kept.{Kept, kept_of, kept_succession, shown_from, shown_by}
use Rattle.channel_spec.proofs.Risen.{FallFrom}
use Rattle.channel_spec.proofs.Passed.{passed}
use Rattle.channel_spec.proofs.KeptWhole.{kept_follows}
use Rattle.playlist_model.specs.Reading.{reading, limited}
use Rattle.read_is_writable.proofs.Whole.{can_be_written}
use Rattle.owed_is_denoted.proofs.Given.{is_read}
use Rattle.channel_spec.proofs.LiveState.{StandingOf}
use Rattle.channel_spec.proofs.EachWindow.{plain_standing, holds}
use Rattle.channel_window.specs.declared.state.ChannelState.{ChannelState}
use Rattle.channel_window.specs.Marking.{history_in}
use Rattle.channel_window.specs.Showing.{kept_in}
use Rattle.channel_window.specs.Listed.{RiseByOne, RisesOn}
use Rattle.live_channel.specs.Channel.{Given, events_of, told_by}
use Rattle.live_channel.specs.Inner.Accepting.{RisesNext}
use Rattle.live_channel.proofs.Steps.{all_given}

-- ---- as they are held

record Rise (store : Store) (list : List Held) (before : List Marked) (end : ℕ) : Type 0 where
  first : ℕ
  rise : RiseByOne first list
  falls : FallFrom first before
  long : first + length list ≡ end

held_rise : (store : Store) (list : List Held) (before : List Marked) (end : ℕ) → FallFrom end (reverse_aux (map (meant store) list) before) → Rise store list before end
held_rise store [] before end f = record { first = end; rise = tt; falls = f; long = omega arith }
held_rise store (m ∷ later) before end f = grind (arith, held_rise store later (meant store m ∷ before) end f)

-- ---- what is shown

record FallsBefore (seen : List Marked) (segments : List Segment) : Type 0 where
  end : ℕ
  falls : FallFrom end seen
  near : first_number segments ≤ end
  anew : length seen ≡ 0 → end ≡ first_number segments

any_falls : (seen : List Marked) (segments : List Segment) (end : ℕ) → FallFrom end seen → first_number segments ≤ end → FallsBefore seen segments
any_falls [] segments end f h = record { end = first_number segments; falls = tt; near = omega arith; anew = λ e. refl }
any_falls (s ∷ before) segments end f h = record { end = end; falls = f; near = h; anew = λ e. absurd (omega (arith, e)) }

front_falls : (first end : ℕ) (seen : List Marked) → FallFrom end seen → FallFrom end (shown_from first seen)
front_falls first end [] f = tt
front_falls first end (s ∷ before) f = grind (arith, front_falls first s.segment.media_sequence before f.1)

shown_falls : (accepted : List Accepted) (history : List Marked) (p : Playlist) → StandingOf accepted history → succession_fault (last_playlist accepted) p ≡ None → FallsBefore (shown_by (last_playlist accepted) history) p.segments
unfolding StandingOf
shown_falls [] history p s e = any_falls [] p.segments (first_number p.segments) tt (omega arith)
shown_falls (a ∷ before) history p s e =
    let last = a.playlist in
    any_falls (shown_from (first_number last.segments) history) p.segments _ (front_falls (first_number last.segments) _ history s.falls) (passed last p e).no_gap

seen_long : (store : Store) (list : List Held) → length (history_in store list) ≡ length list
seen_long store list = length-reverse (map (meant store) list) ∙ length-map list (meant store)

held_rises : (store : Store) (list : List Held) (segments : List Segment) → FallsBefore (history_in store list) segments → RisesOn list segments
held_rises store list segments b = grind (arith, held_rise, seen_long)

pub rises_next : (base : Parts) (tolerance : ℕ) (given : List Given) (bytes : List ℕ) (state : ChannelState) (p : Playlist) → reading limited base bytes ≡ Ok p → kept_in state ≡ kept_of (told_by base tolerance given) → RisesNext state p
rises_next base tolerance given bytes state p read e f =
    let t = told_by base tolerance given in
    let standing = plain_standing t.accepted t.history t.start (holds tolerance (events_of base given) (all_given base given)).standing in
    let follows = kept_follows tolerance p (events_of base given) (is_read p (can_be_written limited base bytes p read), all_given base given) in
    let b = shown_falls t.accepted t.history p standing (sym follows.succeeds ∙ (ap (λ k. kept_succession k p) (sym e) ∙ f)) in
    held_rises state.store state.list p.segments (subst (λ seen. FallsBefore seen p.segments) (sym (ap (λ (k : Kept). k.shown) e)) b)
