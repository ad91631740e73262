-- What a channel makes of a decision file and of one refresh.
use Rattle.std.proofs.Common.{◌≡◌, ℕ, Bool, true, false, not, List, [], ◌∷◌, ◌++◌, refl, ap, sym, ◌∙◌, subst, arith}
use Rattle.std.specs.Prelude.{◌≢◌, Option, Some, None, Ok, Err, IsSome}
use Rattle.std.specs.List.{list_all}
use Rattle.url.specs.Parts.{Parts}
use Rattle.playlist_model.specs.declared.Playlist.{Playlist}
use Rattle.playlist_model.specs.LookBack.{or_earlier}
use Rattle.playlist_model.specs.Uri.{base_of}
use Rattle.byte_streams.specs.Stands.{SourceStand, GaveAll}
use Rattle.playlist_model.specs.Reading.{reading, limited}
use Rattle.stitcher.specs.Stitched.{can_be_numbered}
use Rattle.pod_store.specs.declared.Decisions.{Decisions}
use Rattle.pod_store.specs.declared.fault.DecisionFault.{DecisionFault}
use Rattle.pod_store.specs.declared.fault.DecisionKind.{DecisionKind}
use Rattle.pod_store.specs.declared.fault.DecisionKind.TheVariants.{OutOfMemory as NoRoom}
use Rattle.decision_files.specs.Decided.{decisions_of}
use Rattle.spec_words.specs.Outcomes.{◌>>=◌}
use Rattle.pod_store.specs.Outcome.{DecisionOutcome}
use Rattle.pod_store.specs.Store.{Store, nothing_decided}
use Rattle.pod_store.specs.Store.{decided as after_decisions}
use Rattle.channel_spec.specs.declared.fault.RefreshFault.{RefreshFault}
use Rattle.channel_spec.specs.declared.fault.RefreshFault.TheVariants.{Playlist as Unreadable, NumberRange as PassesRange, OutOfMemory as NoMemory}
use Rattle.channel_spec.specs.Kept.{Kept}
use Rattle.channel_spec.specs.Live as live
use Rattle.channel_spec.specs.Live.{Told, refusal, number_range_fault, succession_fault, last_playlist, whole_stitched_list, after_refresh, window_after}
use Rattle.channel_spec.specs.Successor.{fault_if}
use Rattle.channel_spec.specs.Limits.{default_tolerance}
use Rattle.live_channel.specs.declared.channel.Refreshed.{Refreshed}
use Rattle.live_channel.specs.Channel.{Channel, Given, Reading, decided, decisions_in, told_by, Represents, ChangesStore, after_bytes, with_store, refreshed_with, fresh_after, answer_read, owed_answer, judged, AnswersAs, AnswersRefresh}
use Rattle.vod_run.specs.declared.fault.VodFault.{VodFault}
use Rattle.vod_run.specs.declared.fault.VodFault.TheVariants.{BadBase, Decision, Read, TooManyReads, OutOfMemory}
use Rattle.vod_run.specs.Events.{first_decided, events_of, fault_by, fault_of_decisions}
use Rattle.vod_run.specs.Inner.Events.{RefusesDecisions}
use Rattle.vod_run.specs.Given.{given_by, fault_of_refresh}
use Rattle.vod_run.specs.Vod.{IsInOrder}
use Rattle.vod_run.specs.Inner.Given.{IsGivenFile, IsOfBeginning, IsRefreshed, RefusesRefresh, RefreshesFrom, RefusesInput, RefusesFrom}

-- ---- the decision file

tells : (o : DecisionOutcome Decisions) (store : Store) → (o >>= after_decisions nothing_decided) ≡ Ok store → (o >>= first_decided) ≡ Ok (decisions_in o ++ [])
tells (Ok ds) store h = ap (λ (s : DecisionOutcome Store). s >>= λ x. Ok (live.decided ds ∷ [])) h
tells (Err e) store h = absurd (cc)

tells_no : (o : DecisionOutcome Decisions) (e : DecisionFault) → (o >>= after_decisions nothing_decided) ≡ Err e → (o >>= first_decided) ≡ Err e
tells_no (Ok ds) e h = ap (λ (s : DecisionOutcome Store). s >>= λ x. Ok (live.decided ds ∷ [])) h
tells_no (Err f) e h = let same : f ≡ e = cc in ap Err same

module _ (bytes : List ℕ) (old new : Channel) (s : Represents old []) where
  from_none : after_bytes old.kept.store bytes ≡ (decisions_of bytes >>= after_decisions nothing_decided)
  from_none = ap (λ (k : Kept). after_bytes k.store bytes) s.kept

  pub has_decided : (base : List ℕ) → base_of base ≡ Some old.base → old.tolerance ≡ default_tolerance
      → (after_bytes old.kept.store bytes ≡ Ok new.kept.store) × (new ≡ with_store old new.kept.store)
      → ((given : List Given) → Represents old given → Represents new (decided bytes ∷ given)) → IsGivenFile base (Some bytes) new
  has_decided base b t h on = record {
    base = b ∙ ap (λ (c : Channel). Some c.base) (sym h.1);
    tolerance = ap (λ (c : Channel). c.tolerance) h.1 ∙ t;
    said = tells (decisions_of bytes) new.kept.store (sym from_none ∙ h.0);
    stands = on [] s;
  }

  pub undecided : (e : DecisionFault) → ChangesStore old new (Err e) (after_bytes old.kept.store bytes) → RefusesDecisions (fault_of_decisions e) (events_of (Some bytes))
  undecided e h = by e.kind refl
    where
      by : (kind : DecisionKind) → e.kind ≡ kind → RefusesDecisions (fault_by e kind) (events_of (Some bytes))
      by NoRoom is = tt
      by _ is = tells_no (decisions_of bytes) e (sym from_none ∙ h.1 (λ same. let k = ap (λ (d : DecisionFault). d.kind) same in absurd (cc)))

-- its faults come after those of the base
pub in_decisions : {A : Type 0} (e : VodFault) (o : DecisionOutcome A) → RefusesDecisions e o → IsOfBeginning e
in_decisions BadBase o h = tt
in_decisions (Decision fault) o h = tt
in_decisions OutOfMemory o h = tt
in_decisions _ o h = absurd h

pub after_base : (e : VodFault) (base : List ℕ) (file : Option (List ℕ)) → IsSome (base_of base) → RefusesDecisions e (events_of file) → IsInOrder e base file
after_base (Decision fault) base file some h = (some, h)
after_base OutOfMemory base file some h = tt
after_base _ base file some h = absurd h

-- ---- the refresh

-- no refresh was accepted before
pub none_before : (base : Parts) (tolerance : ℕ) (file : Option (List ℕ)) → (told_by base tolerance (given_by file)).accepted ≡ []
none_before base tolerance file = grind arith

module _ (c : Channel) (bytes : List ℕ) (given : List Given) where
  abbrev before : Told
  before = told_by c.base c.tolerance given

  abbrev answer_to : Playlist → Refreshed
  answer_to p = refreshed_with (window_after (after_refresh c.tolerance before p) p) (fresh_after before.history p)

  accepted_so : (p : Playlist) (done : Refreshed) (o : Option RefreshFault) {done' : Refreshed} → Ok done' ≡ judged o done → o ≡ None
  accepted_so p done None h = refl
  accepted_so p done (Some fault) h = absurd (cc)

  pub is_refreshed : (done : Refreshed) (new : Channel) → AnswersAs c bytes given (Ok done) new → IsRefreshed c bytes given new
  is_refreshed done new a = by (reading limited c.base bytes) refl a.answer
    where
      by : (r : Reading) → reading limited c.base bytes ≡ r → Ok done ≡ answer_read c.tolerance before r → IsRefreshed c bytes given new
      by (Err fault) is h = absurd (cc)
      by (Ok p) is h = record {
        playlist = p;
        read = is;
        accepted = accepted_so p (answer_to p) (refusal c.tolerance before p) h;
        stands = a.stands;
        base = a.base;
        tolerance = a.tolerance;
      }

  module _ (first : before.accepted ≡ []) where
    judged_so : (p : Playlist) (done : Refreshed) (f : RefreshFault) (b : Bool) → reading limited c.base bytes ≡ Ok p → refusal c.tolerance before p ≡ fault_if b PassesRange
        → Err f ≡ judged (fault_if b PassesRange) done → RefusesRefresh (fault_of_refresh f) c bytes given
    judged_so p done f true is r h = let same : PassesRange ≡ f = cc in subst (λ x. RefusesRefresh (fault_of_refresh x) c bytes given) same (record { playlist = p; read = is; refused = r })
    judged_so p done f false is r h = absurd (cc)

    -- the first refresh follows no other
    number_range_alone : (p : Playlist) → refusal c.tolerance before p ≡ number_range_fault (after_refresh c.tolerance before p)
    number_range_alone p = ap (λ accepted. or_earlier (succession_fault (last_playlist accepted) p) (number_range_fault (after_refresh c.tolerance before p))) first

    owed_fault : (f : RefreshFault) → Err f ≡ owed_answer c given bytes → RefusesRefresh (fault_of_refresh f) c bytes given
    owed_fault f h = by (reading limited c.base bytes) refl h
      where
        by : (r : Reading) → reading limited c.base bytes ≡ r → Err f ≡ answer_read c.tolerance before r → RefusesRefresh (fault_of_refresh f) c bytes given
        by (Err fault) is a = let same : Unreadable fault ≡ f = cc in subst (λ x. RefusesRefresh (fault_of_refresh x) c bytes given) same is
        by (Ok p) is a = judged_so p (answer_to p) f (not (list_all can_be_numbered (whole_stitched_list (after_refresh c.tolerance before p)))) is (number_range_alone p) (a ∙ ap (λ o. judged o (answer_to p)) (number_range_alone p))

    pub refuses_refresh : (f : RefreshFault) (new : Channel) → AnswersRefresh c bytes given (Err f) new → RefusesRefresh (fault_of_refresh f) c bytes given
    refuses_refresh NoMemory new h = tt
    refuses_refresh f new h = owed_fault f h.answer

-- ---- the input of a source as the refresh

pub gave_same : (source_old source_new : SourceStand) (bytes input : List ℕ) → bytes ≡ input → GaveAll source_old source_new input → GaveAll source_old source_new bytes
gave_same source_old source_new bytes input same given = subst (GaveAll source_old source_new) (sym same) given

module _ (source_old source_new : SourceStand) (c : Channel) (input : List ℕ) (given : GaveAll source_old source_new input) where
  pub refreshes : (done : Refreshed) (new : Channel) → ((events : List Given) → Represents c events → AnswersRefresh c input events (Ok done) new) → RefreshesFrom source_old source_new c new
  refreshes done new h = record {
    input = input;
    given = given;
    refreshed = λ file s. is_refreshed c input (given_by file) done new (h (given_by file) s);
  }

  refused : (f : RefreshFault) (new : Channel) → ((events : List Given) → Represents c events → AnswersRefresh c input events (Err f) new) → RefusesInput (fault_of_refresh f) source_old source_new c
  refused f new h = record {
    input = input;
    given = given;
    refused = λ file s. refuses_refresh c input (given_by file) (none_before c.base c.tolerance file) f new (h (given_by file) s);
  }

  pub refuses : (f : RefreshFault) (new : Channel) → ((events : List Given) → Represents c events → AnswersRefresh c input events (Err f) new) → RefusesFrom (fault_of_refresh f) source_old source_new c
  refuses (Unreadable fault) new h = refused (Unreadable fault) new h
  refuses NoMemory new h = tt
  refuses f new h = refused f new h

-- a refresh is none of reading its input
pub no_read : (f : RefreshFault) → (fault_of_refresh f ≢ Read) × (fault_of_refresh f ≢ TooManyReads)
no_read (Unreadable fault) = (λ same. absurd (cc), λ same. absurd (cc))
no_read NoMemory = (λ same. absurd (cc), λ same. absurd (cc))
no_read f = (λ same. absurd (cc), λ same. absurd (cc))
