-- A channel after decisions.
use Rattle.std.proofs.Common.{◌≡◌, ℕ, List, ◌∷◌, reverse, refl, ap, sym, subst, ◌∙◌}
use Rattle.std.specs.Prelude.{Option, Result, Ok, Err}
use Rattle.url.specs.Parts.{Parts}
use Rattle.pod_store.specs.Marks.{Mark}
use Rattle.pod_store.specs.declared.fault.DecisionFault.{DecisionFault}
use Rattle.pod_store.specs.declared.Decisions.{Decisions}
use Rattle.pod_store.specs.declared.Decisions.TheVariants.{Withdraw}
use Rattle.pod_store.specs.Store.{Store, Changes, ChangesExactly}
use Rattle.pod_store.specs.Store as store
use Rattle.decision_files.specs.Decided.{decisions_of}
use Rattle.spec_words.specs.Outcomes.{◌>>=◌}
use Rattle.pod_store.specs.Outcome.{DecisionOutcome}
use Rattle.stitcher.specs.declared.marked.MarkedSegment.{MarkedSegment as Held}
use Rattle.stitcher.specs.StitchedSegments.{rest_in}
use Rattle.channel_spec.specs.Live.{store_by_outcome}
use Rattle.channel_spec.specs.LiveLaws.{HasPod}
use Rattle.channel_spec.proofs.HeldPods.{decide_keeps}
use Rattle.live_channel.specs.Channel.{Channel, Given, decided, withdrawn, Represents, WasGivenSomething, channel_with, with_store, ChangesStore, ChangesStoreExactly, StandsOn, AlwaysStandsOn, after_bytes}
use Rattle.channel_window.specs.declared.state.ChannelState.{ChannelState}
use Rattle.channel_window.specs.Showing.{AreKept}
use Rattle.live_channel.proofs.Steps.{decide_follows, withdraw_follows}
use Rattle.live_channel.proofs.Stores.{Stay, all_stay}

module _ (base : Parts) (tolerance : ℕ) (state : ChannelState) (text : Option (List ℕ)) where
  abbrev shown : List Held
  shown = state.list

  abbrev kept_by : Store → Type 0
  kept_by store = AreKept store (record state { store = store })

  abbrev at : Store → Channel
  at store = channel_with base tolerance (record state { store = store }) text

  pub record Answered (old new : Store) (event : Given) (result : Result (Unit {0}) DecisionFault) (outcome : DecisionOutcome Store) : Type 0 where
    pub stands : WasGivenSomething (at new)
    pub decided : kept_by new
    pub changes : ChangesStore (at old) (at new) result outcome
    pub on : StandsOn (at old) event result (at new)

  moved : (old new : Store) → Stay old new shown state.shown.rest → at new ≡ with_store (at old) new
  moved old new s =
      ap (λ xs. record (at old) { kept = record (at old).kept { store = new; shown = reverse xs; rest = rest_in new state.shown.rest } }) s.marks.same
      ∙ ap (λ r. record (at old) { kept = record (at old).kept { store = new; rest = r } }) s.rest.same

  changed : (old new : Store) (event : Given) (given : List Given) → Represents (at old) given → kept_by old → ((mark : Option Mark) → HasPod old mark → HasPod new mark)
      → Represents (with_store (at old) new) (event ∷ given) → Represents (at new) (event ∷ given)
  changed old new event given s d keeps h = subst (λ c. Represents c (event ∷ given)) (sym (moved old new (all_stay (at old) given new shown state.shown.rest s refl refl d.decided d.rest keeps))) h

  pub answered : (old new : Store) (event : Given) (result : Result (Unit {0}) DecisionFault) (outcome : DecisionOutcome (Store)) → Changes old new result outcome → WasGivenSomething (at old) → kept_by old
      → ((mark : Option Mark) → HasPod old mark → HasPod (store_by_outcome old outcome) mark)
      → ((given : List Given) → Represents (at old) given → Represents (with_store (at old) (store_by_outcome old outcome)) (event ∷ given))
      → Answered old new event result outcome
  answered old new event (Ok u) outcome h stands d keeps follows =
      let same : store_by_outcome old outcome ≡ new = ap (store_by_outcome old) h in
      let keeps_new = subst (λ (x : Store). (mark : Option Mark) → HasPod old mark → HasPod x mark) same keeps in
      let follows_new = subst (λ (x : Store). (given : List Given) → Represents (at old) given → Represents (with_store (at old) x) (event ∷ given)) same follows in
      let stay = all_stay (at old) stands.0 new shown state.shown.rest stands.1 refl refl d.decided d.rest keeps_new in
      record {
        stands = (event ∷ stands.0, changed old new event stands.0 stands.1 d keeps_new (follows_new stands.0 stands.1));
        decided = record { decided = stay.marks.decided; rest = stay.rest.decided; previous = d.previous };
        changes = (h, moved old new stay);
        on = λ given s. changed old new event given s d keeps_new (follows_new given s);
      }
  answered old new event (Err e) outcome h stands d keeps follows =
      let same : at new ≡ at old = ap at h.0 in
      record {
        stands = subst WasGivenSomething (sym same) stands;
        decided = subst (λ (x : Store). kept_by x) (sym h.0) d;
        changes = (same, h.1);
        on = λ given s n.
            subst (λ c. Represents c (event ∷ given)) (sym same)
            (subst (λ (x : Store). Represents (with_store (at old) x) (event ∷ given)) (ap (store_by_outcome old) (h.1 n)) (follows given s));
      }

  pub record Withdrew (old new : Store) (id : List ℕ) (result : Result (Unit {0}) DecisionFault) : Type 0 where
    pub stands : WasGivenSomething (at new)
    pub decided : kept_by new
    pub changes : ChangesStoreExactly (at old) (at new) result (store.withdrawn old id)
    pub on : AlwaysStandsOn (at old) (withdrawn id) (at new)

  withdrew : (old new : Store) (id : List ℕ) (result : Result (Unit {0}) DecisionFault) → ChangesExactly old new result (store.withdrawn old id)
      → Answered old new (withdrawn id) result (store.withdrawn old id) → Withdrew old new id result
  withdrew old new id (Ok u) h a = record { stands = a.stands; decided = a.decided; changes = a.changes; on = a.on }
  withdrew old new id (Err e) h a = record {
    stands = a.stands;
    decided = a.decided;
    changes = (a.changes.0, h.1);
    on = λ given s.
        subst (λ c. Represents c (withdrawn id ∷ given)) (sym a.changes.0)
        (subst (λ (x : Store). Represents (with_store (at old) x) (withdrawn id ∷ given)) (ap (store_by_outcome old) h.1) (withdraw_follows (at old) id given s));
  }

  changes_too : (old new : Store) (result : Result (Unit {0}) DecisionFault) (outcome : DecisionOutcome Store) → ChangesExactly old new result outcome → Changes old new result outcome
  changes_too old new (Ok u) outcome h = h
  changes_too old new (Err e) outcome h = (h.0, λ n. h.1)

  pub withdraw_answered : (old new : Store) (id : List ℕ) (result : Result (Unit {0}) DecisionFault) → ChangesExactly old new result (store.withdrawn old id) → WasGivenSomething (at old) → kept_by old
      → Withdrew old new id result
  withdraw_answered old new id result h stands d =
      withdrew old new id result h
      (answered old new (withdrawn id) result (store.withdrawn old id) (changes_too old new result (store.withdrawn old id) h) stands d (decide_keeps (Withdraw id) old) (λ given s. withdraw_follows (at old) id given s))

  pub decide_answered : (old new : Store) (bytes : List ℕ) (ds : Decisions) (result : Result (Unit {0}) DecisionFault) → decisions_of bytes ≡ Ok ds → Changes old new result (store.decided old ds)
      → WasGivenSomething (at old) → kept_by old → Answered old new (decided bytes) result (after_bytes old bytes)
  decide_answered old new bytes ds result e h stands d =
      subst (λ o. Answered old new (decided bytes) result (o >>= store.decided old)) (sym e)
      (answered old new (decided bytes) result (store.decided old ds) h stands d (decide_keeps ds old) (λ given s. decide_follows (at old) ds bytes given e s))
