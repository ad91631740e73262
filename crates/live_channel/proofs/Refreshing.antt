-- A channel after a refresh.
use Rattle.std.proofs.Common.{◌≡◌, ℕ, Bool, true, false, not, cond, ◌&&◌, ◌||◌, List, [], ◌∷◌, map, drop, refl, ap, sym, ◌∙◌, subst, arith}
use Rattle.std.specs.Prelude.{Option, Some, None, Result, Ok, Err, IsErr, IfErr, option_map, filter, find, nat_le, reverse}
use Rattle.std.specs.List.{list_all, list_any, AllByRecursion}
use Rattle.std.proofs.lemmas.Bool.{and_from}
use Rattle.url.specs.Parts.{Parts}
use Rattle.playlist_model.specs.declared.Playlist.{Playlist}
use Rattle.pod_store.specs.Marks.{Marked, mark_in}
use Rattle.playlist_model.specs.LookBack.{or_earlier}
use Rattle.playlist_model.specs.Reading.{reading, limited}
use Rattle.stitcher.specs.Stitched.{can_be_numbered}
use Rattle.read_is_writable.proofs.Whole.{can_be_written}
use Rattle.pod_store.specs.Store.{Entry, Store, has_id, pod_of, pod_for, is_one_of, with_copies, kept_in_use}
use Rattle.pod_store.proofs.Copies.{pod_stays, fallback_stands}
use Rattle.stitcher.specs.declared.marked.MarkedSegment.{MarkedSegment as Held}
use Rattle.stitcher.specs.declared.ends.Rest.{Rest}
use Rattle.stitcher.specs.StitchedSegments.{meant, rest_in, IsDecided, AreDecided}
use Rattle.break_finder.specs.Known.{is_this_break}
use Rattle.channel_spec.specs.declared.fault.RefreshFault.{RefreshFault}
use Rattle.channel_spec.specs.declared.fault.RefreshFault.TheVariants.{NumberRange}
use Rattle.channel_spec.specs.Successor.{first_number, fault_if}
use Rattle.channel_spec.specs.Live.{is_mark_of, rest_id}
use Rattle.channel_spec.specs.Marking.{last_entered}
use Rattle.channel_spec.proofs.StoreAfter.{entries_after}
use Rattle.channel_spec.specs.Kept.{Kept, kept_succession, shown_from, kept_after, kept_items, kept_list, kept_window, kept_refusal, rest_after}
use Rattle.pod_store.proofs.Repeats.{kept_alike}
use Rattle.channel_spec.proofs.HeldPods.{kept_found, same_id, is_shown_with, in_use_with_is}
use Rattle.owed_is_denoted.proofs.Given.{is_read}
use Rattle.live_channel.specs.declared.channel.Refreshed.{Refreshed}
use Rattle.live_channel.specs.declared.next.NextState.{NextState}
use Rattle.channel_window.specs.declared.state.ChannelState.{ChannelState}
use Rattle.channel_window.specs.Checked.{AreContiguous}
use Rattle.channel_window.specs.Marking.{history_in}
use Rattle.channel_window.specs.Showing.{AreKept, kept_in}
use Rattle.channel_window.specs.Listed.{IsRestDecided}
use Rattle.live_channel.specs.Channel.{Channel, refreshed, WasGivenSomething, channel_with, judged, refreshed_with, fresh_after, step_judged, step_read, says_read, is_out_of_memory, Steps, StepsUnless, Refreshes}
use Rattle.live_channel.specs.Inner.Accepting.{breaks_after, IsAccepted, BytesAreReadAs, FollowsLastPlaylist, RefusesNext, Refused, accepted_state}
use Rattle.channel_window.proofs.ShownWith.{marked_too}
use Rattle.live_channel.proofs.Stores.{MarksStay, RestStays, Stay, unturned}
use Rattle.live_channel.proofs.Steps.{steps_refresh}

-- ---- the pods of breaks in use stay

none_step : (uses : List ℕ → Bool) (id : List ℕ) (e : Entry) (entries : List Entry) → find (has_id id) (entries_after uses entries) ≡ None → (b : Bool) → has_id id e ≡ b → cond b (Some e) None ≡ None
    → (k : Bool) → find (has_id id) (map (λ (y : Entry). record y { used = uses y.id }) (cond k (e ∷ filter (λ (y : Entry). not y.used || uses y.id) entries) (filter (λ (y : Entry). not y.used || uses y.id) entries))) ≡ None
none_step uses id e entries rec true same h k = absurd (cc)
none_step uses id e entries rec false same h true = rw same rec
none_step uses id e entries rec false same h false = rec

none_kept : (uses : List ℕ → Bool) (id : List ℕ) (entries : List Entry) → find (has_id id) entries ≡ None → find (has_id id) (entries_after uses entries) ≡ None
none_kept uses id [] h = refl
none_kept uses id (e ∷ entries) h = grind (arith, none_kept uses id entries)

after_found : (uses : List ℕ → Bool) (store : Store) (id : List ℕ) (o : Option Entry) → uses id ≡ true → find (has_id id) store.entries ≡ o
    → option_map pod_of (find (has_id id) (entries_after uses store.entries)) ≡ option_map pod_of o
after_found uses store id o u e = grind (arith, none_kept, kept_found)

pod_stays_on : (ids : List (List ℕ)) (store : Store) (id : List ℕ) → is_one_of ids id ≡ true → pod_for (kept_in_use ids store) id ≡ pod_for store id
pod_stays_on ids store id u =
    let copied = with_copies store ids in
    ap (λ o. or_earlier o store.fallback) (after_found (is_one_of ids) copied id (find (has_id id) copied.entries) u refl)
    ∙ (ap (λ f. or_earlier (option_map pod_of (find (has_id id) copied.entries)) f) (sym (fallback_stands store ids)) ∙ pod_stays store ids id)

mark_stays : (ids : List (List ℕ)) (store : Store) (o : Option (List ℕ)) → IsDecided store o → ((id : List ℕ) → is_mark_of id (mark_in store o) ≡ true → is_one_of ids id ≡ true)
    → (mark_in (kept_in_use ids store) o ≡ mark_in store o) × IsDecided (kept_in_use ids store) o
mark_stays ids store None d h = (refl, tt)
mark_stays ids store (Some id) d h = grind (arith, pod_stays_on, marked_too, same_id)

marks_stay : (ids : List (List ℕ)) (store : Store) (held : List Held) → AreDecided store held
    → AllByRecursion (λ (x : Marked). (id : List ℕ) → is_mark_of id x.mark ≡ true → is_one_of ids id ≡ true) (map (meant store) held) → MarksStay store (kept_in_use ids store) held
marks_stay ids store [] d h = record { same = refl; decided = tt }
marks_stay ids store (m ∷ later) d h =
    let here = mark_stays ids store m.mark d.0 h.0 in
    let rest = marks_stay ids store later d.1 h.1 in
    record {
      same = ap (λ o. record (meant store m) { mark = o } ∷ map (meant (kept_in_use ids store)) later) here.0 ∙ ap (λ xs. meant store m ∷ xs) rest.same;
      decided = (here.1, rest.decided);
    }

-- the pod of the rest in use stays
rest_stays : (ids : List (List ℕ)) (store : Store) (rest : Option Rest) → IsRestDecided store rest → ((id : List ℕ) → is_this_break id (rest_id (rest_in store rest)) ≡ true → is_one_of ids id ≡ true)
    → RestStays store (kept_in_use ids store) rest
rest_stays ids store None d h = record { same = refl; decided = tt }
rest_stays ids store (Some rest) d h = grind (arith, pod_stays_on, same_id)

-- ---- each mark of a shown segment is in use

or_first : (a b : Bool) → a ≡ true → (a || b) ≡ true
or_first true b e = refl
or_first false b e = absurd (cc)

or_second : (a b : Bool) → b ≡ true → (a || b) ≡ true
or_second true b e = refl
or_second false b e = e

used_from : (first : ℕ) (uses : List ℕ → Bool) (list : List Marked) → ((id : List ℕ) → list_any (λ (s : Marked). nat_le first s.segment.media_sequence && is_mark_of id s.mark) list ≡ true → uses id ≡ true)
    → AllByRecursion (λ (x : Marked). (id : List ℕ) → is_mark_of id x.mark ≡ true → uses id ≡ true) (shown_from first list)
used_from first uses [] h = tt
used_from first uses (s ∷ before) h = step (nat_le first s.segment.media_sequence) refl (used_from first uses before (λ id k. h id (or_second _ _ k)))
  where
    step : (b : Bool) → nat_le first s.segment.media_sequence ≡ b → AllByRecursion (λ (x : Marked). (id : List ℕ) → is_mark_of id x.mark ≡ true → uses id ≡ true) (shown_from first before)
        → AllByRecursion (λ (x : Marked). (id : List ℕ) → is_mark_of id x.mark ≡ true → uses id ≡ true) (cond b (s ∷ shown_from first before) [])
    step true e rest = (λ id k. h id (or_first _ _ (and_from _ _ e k)), rest)
    step false e rest = tt

-- ---- an accepted refresh

kept_ext : (a b : Kept) → a.store ≡ b.store → a.breaks ≡ b.breaks → a.last ≡ b.last → a.shown ≡ b.shown → a.entered ≡ b.entered → a.numbers ≡ b.numbers → a.so_far ≡ b.so_far → a.rest ≡ b.rest → a ≡ b
kept_ext a b store breaks last shown entered numbers lasted rest = grind arith

no_fault : (succession number_range : Option RefreshFault) → succession ≡ None → number_range ≡ None → or_earlier succession number_range ≡ None
no_fault None number_range e f = f
no_fault (Some fault) number_range e f = absurd (cc)

module _ (base : Parts) (tolerance : ℕ) (state : ChannelState) (text : Option (List ℕ)) (bytes : List ℕ) where
  abbrev before : Channel
  before = channel_with base tolerance state text

  module _ (p : Playlist) (held : List Held) (a : NextState) (h : BytesAreReadAs base bytes p) (f : FollowsLastPlaylist tolerance (kept_in state) p held a) where
    abbrev kept : Kept
    kept = kept_in state

    abbrev accepted : IsAccepted tolerance kept p held a
    accepted = f.accepted

    -- before the refresh is accepted, with the segments that are shown then
    abbrev grown : ChannelState
    grown = record state { list = held }

    abbrev after : Channel
    after = channel_with base tolerance (accepted_state grown p a) (Some a.written.text)

    pub unrefused : kept_refusal tolerance kept p ≡ None
    unrefused = no_fault (kept_succession kept p) (fault_if (not (list_all can_be_numbered (kept_items tolerance kept p))) NumberRange) f.succeeds (ap (λ b. fault_if (not b) NumberRange) accepted.fit)

    listed : (id : List ℕ) → (is_shown_with (first_number p.segments) (kept_list tolerance kept p) (or_earlier (last_entered (kept_list tolerance kept p)) kept.entered) id || is_this_break id (rest_id (rest_after kept p (kept_list tolerance kept p)))) ≡ true
        → is_one_of a.in_use.items id ≡ true
    listed id k = accepted.in_use.ids id ∙ (in_use_with_is (first_number p.segments) (kept_list tolerance kept p) (or_earlier (last_entered (kept_list tolerance kept p)) kept.entered) (rest_after kept p (kept_list tolerance kept p)) id ∙ k)

    in_use : AllByRecursion (λ (x : Marked). (id : List ℕ) → is_mark_of id x.mark ≡ true → is_one_of a.in_use.items id ≡ true) (history_in state.store (drop a.gone held))
    in_use =
        subst (λ (xs : List Marked). AllByRecursion (λ (x : Marked). (id : List ℕ) → is_mark_of id x.mark ≡ true → is_one_of a.in_use.items id ≡ true) xs) (sym accepted.shown)
        (used_from (first_number p.segments) (is_one_of a.in_use.items) (kept_list tolerance kept p) (λ id k. listed id (or_first _ _ (or_first _ _ k))))

    rest_used : (id : List ℕ) → is_this_break id (rest_id (rest_in state.store a.shown.rest)) ≡ true → is_one_of a.in_use.items id ≡ true
    rest_used id k = listed id (or_second _ _ (ap (λ o. is_this_break id (rest_id o)) (sym accepted.rest) ∙ k))

    stay : Stay state.store (kept_in_use a.in_use.items state.store) (drop a.gone held) a.shown.rest
    stay = record {
      marks =
          marks_stay a.in_use.items state.store (drop a.gone held) accepted.decided
          (unturned (λ (x : Marked). (id : List ℕ) → is_mark_of id x.mark ≡ true → is_one_of a.in_use.items id ≡ true) (map (meant state.store) (drop a.gone held)) [] in_use).0;
      rest = rest_stays a.in_use.items state.store a.shown.rest accepted.rest_decided rest_used;
    }

    kept_is : kept_in (accepted_state grown p a) ≡ kept_after tolerance kept p
    kept_is =
        kept_ext (kept_in (accepted_state grown p a)) (kept_after tolerance kept p) (kept_alike a.in_use.items (breaks_after kept p (kept_list tolerance kept p)) state.store accepted.in_use) accepted.breaks refl
        (ap (λ (xs : List Marked). reverse xs) stay.marks.same ∙ accepted.shown) accepted.entered accepted.numbers accepted.lasted (stay.rest.same ∙ accepted.rest)

    steps : Steps before bytes (Ok a.refreshed) after
    steps = record {
      says =
          ap Ok accepted.refreshed
          ∙ (ap (λ o. judged o (refreshed_with (kept_window tolerance kept p) (fresh_after kept.shown p))) (sym unrefused)
          ∙ ap (says_read before) (sym h.read));
      comes =
          ap (λ k. record { base = base; tolerance = tolerance; kept = k; text = Some a.written.text }) kept_is
          ∙ (ap (λ t. record { base = base; tolerance = tolerance; kept = kept_after tolerance kept p; text = Some t }) accepted.text
          ∙ (ap (step_judged before p) (sym unrefused) ∙ ap (step_read before) (sym h.read)));
    }

    pub record Goes (new : ChannelState) (done : Refreshed) : Type 0 where
      pub stands : WasGivenSomething (channel_with base tolerance new (Some a.written.text))
      pub decided : AreKept new.store new
      pub refreshes : Refreshes before bytes (Ok done) (channel_with base tolerance new (Some a.written.text))

    goes_so : WasGivenSomething before → Goes (accepted_state grown p a) a.refreshed
    goes_so s =
        let r = steps_refresh before bytes (Ok a.refreshed) after steps in
        record { stands = (refreshed bytes ∷ s.0, (r s.0 s.1).stands); decided = record { decided = stay.marks.decided; rest = stay.rest.decided; previous = accepted.previous }; refreshes = r }

    pub goes : (new : ChannelState) (done : Refreshed) → new ≡ accepted_state grown p a → done ≡ a.refreshed → WasGivenSomething before → Goes new done
    goes new done e k s = subst (λ (x : ChannelState). Goes x done) (sym e) (subst (Goes (accepted_state grown p a)) (sym k) (goes_so s))

  -- ---- a refused refresh

  pub stays : (result : Result Refreshed RefreshFault) → IsErr result → IfErr result (λ e. Refused base tolerance state bytes e) → Refreshes before bytes result before
  stays (Ok answer) h k = absurd (cc)
  stays (Err e) h k = steps_refresh before bytes (Err e) before (k text)

  refused_as : (p : Playlist) (e : RefreshFault) → BytesAreReadAs base bytes p → RefusesNext e (kept_refusal tolerance (kept_in state) p)
      → (b : Bool) → is_out_of_memory (Err e) ≡ b → StepsUnless b before bytes (Err e) before
  refused_as p e r h true same = refl
  refused_as p e r h false same =
      let told : kept_refusal tolerance (kept_in state) p ≡ Some e = h (λ is. let no : is_out_of_memory (Err e) ≡ true = ap (λ x. is_out_of_memory (Err x)) is in absurd (cc)) in
      record {
        says = ap (λ o. judged o (refreshed_with (kept_window tolerance (kept_in state) p) (fresh_after (kept_in state).shown p))) (sym told) ∙ ap (says_read before) (sym r.read);
        comes = ap (step_judged before p) (sym told) ∙ ap (step_read before) (sym r.read);
      }

  -- one that was read, and may not follow, or passes the range of numbers
  pub stays_next : (p : Playlist) (result : Result Refreshed RefreshFault) → IsErr result → BytesAreReadAs base bytes p → IfErr result (λ e. RefusesNext e (kept_refusal tolerance (kept_in state) p))
      → Refreshes before bytes result before
  stays_next p (Ok answer) h r k = absurd (cc)
  stays_next p (Err e) h r k = steps_refresh before bytes (Err e) before (refused_as p e r k (is_out_of_memory (Err e)) refl)

-- what is read has rising numbers
pub read_rises : (base : Parts) (bytes : List ℕ) (p : Playlist) → reading limited base bytes ≡ Ok p → AreContiguous p.segments
read_rises base bytes p e = (is_read p (can_be_written limited base bytes p e)).numbers
