-- The store has the pods of the marks that are shown, of the last break entered and of the rest.
use Rattle.std.proofs.Common.{◌≡◌, ℕ, ◌<◌, ◌≤◌, Bool, true, false, cond, ◌||◌, List, [], ◌∷◌, min, length, refl, ap, sym, ◌∙◌, subst, arith}
use Rattle.std.proofs.lemmas.Bool.{leb-true, eqb-true, eqb-false}
use Rattle.std.proofs.Math.Decide.{dec_lt}
use Rattle.std.specs.Prelude.{Option, Some, None, is_none, nat_le, filter, ◌==◌}
use Rattle.std.specs.List.{AllByRecursion}
use Rattle.playlist_model.specs.declared.Playlist.{Playlist}
use Rattle.channel_spec.specs.declared.fault.RefreshFault.{RefreshFault}
use Rattle.pod_store.specs.Marks.{Mark, Marked, newest_mark}
use Rattle.stitcher.specs.Stitched.{up_to}
use Rattle.pod_store.specs.Store.{Store, kept_in_use, is_one_of}
use Rattle.break_finder.specs.Known.{Accepted, is_this_break}
use Rattle.channel_spec.specs.Marking.{Moment, last_mark, is_new, history_after}
use Rattle.channel_spec.specs.Successor.{first_number, end_number}
use Rattle.channel_spec.specs.Live.{Event, decided, refreshed, moment, succession_fault, last_playlist, breaks_in_use, rest_before}
use Rattle.channel_spec.specs.LiveLaws.{HasPod, ShownHavePods, first_shown}
use Rattle.channel_spec.specs.Sound.{IsSoundPlaylist, IsSoundEvent}
use Rattle.stitcher.specs.Paced.{PodRest, due_stitched}
use Rattle.channel_spec.specs.Live.{Told, item_place, gone_before, rest_over, rest_id, start_after, after_refresh, refusal, happens}
use Rattle.channel_spec.specs.Live.{rest_by}
use Rattle.channel_spec.specs.LiveLaws.{rest_mark, MarksHavePods}
use Rattle.channel_spec.proofs.Windows.{all_from}
use Rattle.channel_spec.proofs.Growth.{history_grows}
use Rattle.channel_spec.proofs.Decided.{from_all}
use Rattle.channel_spec.proofs.Risen.{FallFrom}
use Rattle.channel_spec.proofs.LiveState.{Standing, new_standing}
use Rattle.channel_spec.proofs.HeldPods.{Has, has_some, after_has, show_has, all_more, not_back, is_shown, shown_used, last_used, in_use_is, or_front, or_back, same_id, decide_keeps}
use Rattle.channel_spec.proofs.EachWindow.{WindowOf, Holds, holds, plain_standing, first_none}
use Rattle.channel_spec.proofs.Starts.{same_there, none_before, rest_with}

-- ---- the mark of the segment before a number

newest_gone : (store : Store) (first number end : ℕ) (history : List Marked) → FallFrom end history → first < number → number ≤ end
    → AllByRecursion (λ (s : Marked). first ≤ s.segment.media_sequence → Has store s.mark) history → Has store (newest_mark (gone_before number history))
unfolding Has
newest_gone store first number end [] f h k a = tt
newest_gone store first number end (x ∷ before) f h k a = step (nat_le number x.segment.media_sequence) refl (λ n. newest_gone store first number x.segment.media_sequence before f.1 h n a.1)
  where
    step : (b : Bool) → nat_le number x.segment.media_sequence ≡ b → (number ≤ x.segment.media_sequence → Has store (newest_mark (gone_before number before))) → Has store (newest_mark (cond b (gone_before number before) (x ∷ before)))
    step true e rec = rec (leb-true number x.segment.media_sequence e)
    step false e rec = a.0 (omega (arith, f.0, h, k))

found_has : (store : Store) (start : ℕ) (place : ℕ) (gone : List Marked) → Has store (newest_mark gone) → Has store (rest_mark (rest_with 0 start place gone))
unfolding Has
found_has store start place gone h = grind arith

-- ---- one refresh

abbrev Held : Told → Type 0
Held p =
    ShownHavePods p.store (first_shown p.accepted) p.history
    × (HasPod p.store (last_mark p.history) × HasPod p.store (rest_mark (rest_by (last_playlist p.accepted) p.start p.history)))

rest_used : (rest : Option PodRest) (f : Mark) → rest_mark rest ≡ Some f → is_this_break f.id (rest_id rest) ≡ true
rest_used rest f e = grind (arith, same_id)

rest_same : (n : ℕ) (new old : List Marked) (start : ℕ) → up_to n new ≡ up_to n old → gone_before n new ≡ gone_before n old → rest_over 0 start n new ≡ rest_over 0 start n old
rest_same n new old start u g = grind arith

rest_step : (store : Store) (k n end : ℕ) (new old : List Marked) (start other : ℕ) → n ≤ k → rest_over 0 start n new ≡ rest_over 0 start n old → FallFrom end new → k ≤ end
    → HasPod store (rest_mark (rest_over 0 start n old)) → AllByRecursion (λ (s : Marked). n ≤ s.segment.media_sequence → Has store s.mark) new
    → (b : Bool) → (k == n) ≡ b → Has store (rest_mark (rest_over 0 (cond b start other) k new))
rest_step store k n end new old start other back same f long h a true e =
    subst (λ i. Has store (rest_mark (rest_over 0 start i new))) (sym (eqb-true k n e)) (subst (λ o. Has store (rest_mark o)) (sym same) (has_some store (rest_mark (rest_over 0 start n old)) h))
rest_step store k n end new old start other back same f long h a false e =
    found_has store other (item_place k new) (gone_before k new) (newest_gone store n k end new f (higher (dec_lt n k)) long a)
  where
    higher : Dec (n < k) → n < k
    higher (yes l) = l
    higher (no l) = absurd (eqb-false k n e (omega (arith, back, l)))

rest_has : (m : Moment) (accepted : List Accepted) (history : List Marked) (start : ℕ) (store : Store) (playlist : Playlist) → WindowOf accepted history start → succession_fault (last_playlist accepted) playlist ≡ None
    → Standing playlist (history_after m history playlist) → HasPod store (rest_mark (rest_by (last_playlist accepted) start history))
    → AllByRecursion (λ (s : Marked). first_shown accepted ≤ s.segment.media_sequence → Has store s.mark) (history_after m history playlist)
    → Has store (rest_mark (rest_over 0 (start_after (last_playlist accepted) start history playlist (history_after m history playlist)) (first_number playlist.segments) (history_after m history playlist)))
unfolding WindowOf Has
rest_has m [] history start store playlist st e t h a =
    let new = history_after m history playlist in
    let k = first_number playlist.segments in
    subst (λ o. Has store (rest_mark o)) (sym (none_before (item_place k new) (item_place k new) (gone_before k new) refl)) tt
rest_has m (x ∷ earlier) history start store playlist st e t h a =
    let new = history_after m history playlist in
    let k = first_number playlist.segments in
    let n = first_number x.playlist.segments in
    let s = st.standing in
    let g = history_grows m history (filter (is_new history) playlist.segments) in
    let c = same_there n (end_number x.playlist.segments) (end_number playlist.segments) history g.0 s.falls (subst (λ l. FallFrom (end_number playlist.segments) l) g.1 t.falls) (omega (arith, s.read.some)) (omega (arith, s.long)) in
    rest_step store k n (end_number playlist.segments) new history start (min (item_place k new) (length (due_stitched x.playlist.end_list history))) (not_back (x ∷ earlier) playlist e)
    (rest_same n new history start (ap (λ l. up_to n l) g.1 ∙ c.up) (ap (gone_before n) g.1 ∙ c.gone)) t.falls (omega (arith, t.read.some)) h a (k == n) refl

refresh_held : (tolerance : ℕ) (p : Told) (playlist : Playlist) → Holds p → IsSoundPlaylist playlist → Held p → succession_fault (last_playlist p.accepted) playlist ≡ None → Held (after_refresh tolerance p playlist)
refresh_held tolerance p playlist ph r h e =
    let t = p in
    let m = moment tolerance t playlist in
    let first = first_number playlist.segments in
    let history = history_after m t.history playlist in
    let start = start_after (last_playlist t.accepted) p.start t.history playlist history in
    let ids = breaks_in_use start first history in
    let listed : (id : List ℕ) → (is_shown first history id || is_this_break id (rest_id (rest_before start first history))) ≡ true → is_one_of ids id ≡ true = λ id u. in_use_is start first history id ∙ u in
    let back = not_back t.accepted playlist e in
    let standing = new_standing m t.accepted t.history playlist (plain_standing t.accepted t.history p.start ph.standing) r refl ph.store e in
    let a = show_has m (first_shown t.accepted) t.history (filter (is_new t.history) playlist.segments) (record {
      shown = all_more (λ (s : Marked). first_shown t.accepted ≤ s.segment.media_sequence → HasPod t.store s.mark) (λ (s : Marked). first_shown t.accepted ≤ s.segment.media_sequence → Has t.store s.mark) t.history
          (λ s k n. has_some t.store s.mark (k n)) h.0;
      last = has_some t.store (last_mark t.history) h.1.0;
    }) in
    let rest = rest_over 0 start first history in (
      all_from (λ (s : Marked). first ≤ s.segment.media_sequence → HasPod (kept_in_use ids t.store) s.mark) history
          (λ s inside n. after_has t.store ids s.mark (from_all (λ (x : Marked). first_shown t.accepted ≤ x.segment.media_sequence → Has t.store x.mark) history s a.shown inside (omega (arith, back, n)))
          (λ f same. listed f.id (or_front (is_shown first history f.id) (is_this_break f.id (rest_id rest)) (shown_used first history s f inside n same)))),
      (
        after_has t.store ids (last_mark history) a.last (λ f same. listed f.id (or_front (is_shown first history f.id) (is_this_break f.id (rest_id rest)) (last_used first history f same))),
        after_has t.store ids (rest_mark rest) (rest_has m t.accepted t.history p.start t.store playlist ph.standing e standing h.1.1 a.shown)
            (λ f same. listed f.id (or_back (is_shown first history f.id) (is_this_break f.id (rest_id rest)) (rest_used rest f same))),
      ),
    )

refusal_step : (tolerance : ℕ) (p : Told) (playlist : Playlist) → Holds p → IsSoundPlaylist playlist → Held p → (o : Option RefreshFault) → refusal tolerance p playlist ≡ o
    → Held (cond (is_none o) (after_refresh tolerance p playlist) p)
refusal_step tolerance p playlist ph r h None e = grind (arith, refresh_held, first_none)
refusal_step tolerance p playlist ph r h (Some x) e = h

event_held : (tolerance : ℕ) (p : Told) (event : Event) → Holds p → IsSoundEvent event → Held p → Held (happens tolerance p event)
event_held tolerance p (decided ds) ph g h = grind (arith, all_more, decide_keeps)
event_held tolerance p (refreshed playlist) ph g h = grind (arith, refusal_step)

pub marks_have_pods : MarksHavePods
marks_have_pods tolerance [] g = (tt, (tt, tt))
marks_have_pods tolerance (event ∷ before) g = grind (arith, event_held, holds, marks_have_pods tolerance before g.1)
