-- A channel that keeps no history follows all that it was given.
use Rattle.std.proofs.Common.{◌≡◌, ℕ, cond, List, [], ◌∷◌, ◌++◌, map, length, refl, ap, sym, ◌∙◌, subst, Bool, true, false, arith}
use Rattle.std.specs.Prelude.{Option, Some, None, Ok, Err, is_none, option_map, Result}
use Rattle.std.specs.List.{AllByRecursion}
use Rattle.url.specs.Parts.{Parts}
use Rattle.playlist_model.specs.declared.Playlist.{Playlist}
use Rattle.playlist_model.specs.declared.DateRange.{DateRange}
use Rattle.playlist_model.specs.Segments.{Segment}
use Rattle.playlist_model.specs.Reading.{reading, limited}
use Rattle.stitcher.specs.Stitched.{Item}
use Rattle.playlist_write.specs.Owed.{playlist_text}
use Rattle.read_is_writable.proofs.Whole.{can_be_written}
use Rattle.stitcher.specs.Written.{written_item}
use Rattle.channel_spec.specs.declared.fault.RefreshFault.{RefreshFault}
use Rattle.channel_spec.specs.Sound as lawful
use Rattle.playlist_model.specs.Reading.{unlimited}
use Rattle.playlist_model.proofs.LimitLaws.{reads_what_is_denoted}
use Rattle.owed_is_denoted.specs.Laws.{CanBeGiven}
use Rattle.owed_is_denoted.proofs.Always.{always_denotes}
use Rattle.live_channel.specs.declared.channel.Refreshed.{Refreshed}
use Rattle.channel_spec.specs.Live.{Event, Told, told, refusal, last_playlist, after_refresh, window_after, written_date_ranges}
use Rattle.channel_spec.specs.Live as live
use Rattle.channel_spec.specs.Kept.{Kept, kept_of, kept_refusal, kept_window}
use Rattle.channel_spec.specs.KeptLaws.{FollowsFromKept}
use Rattle.channel_spec.proofs.KeptWhole.{kept_follows}
use Rattle.channel_spec.specs.Live.{date_range_text}
use Rattle.owed_is_denoted.specs.Owed.{owed_playlist, owed_text}
use Rattle.owed_is_denoted.specs.Laws.{KeepsRules}
use Rattle.owed_is_denoted.proofs.Given.{is_read, all_of}
use Rattle.channel_spec.proofs.SoundPods.{kept_is_sound}
use Rattle.live_channel.proofs.PodRules.{pods_keep_rules}
use Rattle.pod_store.specs.Store.{Store}
use Rattle.decision_files.specs.Decided.{decisions_of}
use Rattle.pod_store.specs.Outcome.{DecisionOutcome}
use Rattle.pod_store.specs.declared.Decisions.{Decisions}
use Rattle.live_channel.specs.Channel.{Given, decided, withdrawn, refreshed, Reading, readable, decisions_in, with_store, events_in, events_of, told_by, text_after, Channel, Represents, refreshed_with, judged, fresh_after, answer_read, AnswersAs, live_playlist_after, step_judged, step_read, step, says_read, says, StepsUnless, AnswersUnless, WritesOwed}
use Rattle.live_channel.specs.ChannelLaws.{StepFollows, StepsRefresh, DecideFollows, UndecidedFollows, WithdrawFollows, ChannelWrites}

-- ---- what was given keeps the rules

both : {A : Type 0} (P : A → Type 0) (xs ys : List A) → AllByRecursion P xs → AllByRecursion P ys → AllByRecursion P (xs ++ ys)
both P [] ys h k = k
both P (x ∷ xs) ys h k = (h.0, both P xs ys h.1 k)

read_given : (base : Parts) (bytes : List ℕ) (r : Reading) → reading limited base bytes ≡ r → AllByRecursion lawful.IsSoundEvent (readable r)
read_given base bytes (Ok p) e = (is_read p (can_be_written limited base bytes p e), tt)
read_given base bytes (Err fault) e = tt

decided_given : (bytes : List ℕ) (o : DecisionOutcome Decisions) → decisions_of bytes ≡ o → AllByRecursion lawful.IsSoundEvent (decisions_in o)
decided_given bytes (Ok ds) e = (all_of KeepsRules lawful.IsSoundPod ds (λ d k. kept_is_sound d k) (pods_keep_rules bytes ds e), tt)
decided_given bytes (Err fault) e = tt

decided_good : (bytes : List ℕ) (o : DecisionOutcome Decisions) → decisions_of bytes ≡ o → AllByRecursion CanBeGiven (decisions_in o)
decided_good bytes (Ok ds) e = (pods_keep_rules bytes ds e, tt)
decided_good bytes (Err fault) e = tt

one_given : (base : Parts) (g : Given) → AllByRecursion lawful.IsSoundEvent (events_in base g)
one_given base (decided bytes) = decided_given bytes (decisions_of bytes) refl
one_given base (withdrawn id) = (tt, tt)
one_given base (refreshed bytes) = read_given base bytes (reading limited base bytes) refl

pub all_given : (base : Parts) (given : List Given) → AllByRecursion lawful.IsSoundEvent (events_of base given)
all_given base [] = tt
all_given base (g ∷ before) = both lawful.IsSoundEvent (events_in base g) (events_of base before) (one_given base g) (all_given base before)

-- ---- one refresh

judged_base : (c : Channel) (p : Playlist) (o : Option RefreshFault) → (step_judged c p o).base ≡ c.base
judged_base c p None = refl
judged_base c p (Some fault) = refl

judged_tolerance : (c : Channel) (p : Playlist) (o : Option RefreshFault) → (step_judged c p o).tolerance ≡ c.tolerance
judged_tolerance c p None = refl
judged_tolerance c p (Some fault) = refl

module _ (base : Parts) (tolerance : ℕ) (text : Option (List ℕ)) (given : List Given) (bytes : List ℕ) where
  abbrev t : Told
  t = told_by base tolerance given

  abbrev c : Channel
  c = record { base = base; tolerance = tolerance; kept = kept_of t; text = text }

  abbrev happened : Playlist → Told
  happened p = told tolerance (live.refreshed p ∷ events_of base given)

  same_answer : (p : Playlist) → FollowsFromKept tolerance p (events_of base given) → (o : Option RefreshFault) → refusal tolerance t p ≡ o
      → judged (kept_refusal tolerance (kept_of t) p) (refreshed_with (kept_window tolerance (kept_of t) p) (fresh_after (kept_of t).shown p))
      ≡ judged o (refreshed_with (window_after (after_refresh tolerance t p) p) (fresh_after t.history p))
  same_answer p f (Some fault) e =
      ap (λ o. judged o (refreshed_with (kept_window tolerance (kept_of t) p) (fresh_after (kept_of t).shown p))) (f.refused ∙ e)
  same_answer p f None e =
      let now : happened p ≡ after_refresh tolerance t p = ap (λ o. cond (is_none o) (after_refresh tolerance t p) t) e in
      ap (λ o. judged o (refreshed_with (kept_window tolerance (kept_of t) p) (fresh_after (kept_of t).shown p))) (f.refused ∙ e)
      ∙ (ap (λ w. judged None (refreshed_with w (fresh_after (kept_of t).shown p))) (f.window e ∙ ap (λ u. window_after u p) now)
      ∙ ap (λ (ss : List Segment). judged None (refreshed_with (window_after (after_refresh tolerance t p) p) (length ss))) f.fresh)

  abbrev StandsAfter : Channel → Told → Type 0
  StandsAfter d u = (d.kept ≡ kept_of u) × (d.text ≡ text_after u)

  same_channel : (p : Playlist) → FollowsFromKept tolerance p (events_of base given) → text ≡ text_after t → (o : Option RefreshFault) → refusal tolerance t p ≡ o
      → StandsAfter (step_judged c p o) (cond (is_none o) (after_refresh tolerance t p) t)
  same_channel p f text_is (Some fault) e = (refl, text_is)
  same_channel p f text_is None e =
      let now : happened p ≡ after_refresh tolerance t p = ap (λ o. cond (is_none o) (after_refresh tolerance t p) t) e in
      let date_ranges = f.date_ranges e ∙ ap (λ u. written_date_ranges u p) now in
      let window = f.window e ∙ ap (λ u. window_after u p) now in (
        f.kept e ∙ ap kept_of now,
        ap (λ (rs : List DateRange). Some (playlist_text (record (live_playlist_after tolerance (kept_of t) p) { date_ranges = map date_range_text rs }))) date_ranges
            ∙ ap (λ (w : List Item). Some (playlist_text (record (owed_playlist (after_refresh tolerance t p) p) { segments = map written_item w }))) window,
      )

  stands : (d : Channel) (u : Told) → d.base ≡ base → d.tolerance ≡ tolerance → StandsAfter d u → (later : List Given) → u ≡ told_by base tolerance later → Represents d later
  stands d u b tol h later e =
      let there : u ≡ told_by d.base d.tolerance later = e ∙ (ap (λ x. told_by x tolerance later) (sym b) ∙ ap (λ x. told_by d.base x later) (sym tol)) in
      record { kept = h.0 ∙ ap kept_of there; text = h.1 ∙ ap text_after there }

  one_step : text ≡ text_after t → (r : Reading) → reading limited base bytes ≡ r
      → (says_read c r ≡ answer_read tolerance t r) × Represents (step_read c r) (refreshed bytes ∷ given)
  one_step text_is (Err fault) e =
      (refl, stands c t refl refl (refl, text_is) (refreshed bytes ∷ given) (ap (λ r. told tolerance (readable r ++ events_of base given)) (sym e)))
  one_step text_is (Ok p) e =
      let f = kept_follows tolerance p (events_of base given) (is_read p (can_be_written limited base bytes p e), all_given base given) in
      let o = refusal tolerance t p in
      let d = step_judged c p (kept_refusal tolerance (kept_of t) p) in
      let after : StandsAfter d (happened p) = subst (λ x. StandsAfter (step_judged c p x) (happened p)) (sym f.refused) (same_channel p f text_is o refl) in (
        same_answer p f o refl,
        stands d (happened p) (judged_base c p (kept_refusal tolerance (kept_of t) p)) (judged_tolerance c p (kept_refusal tolerance (kept_of t) p)) after (refreshed bytes ∷ given)
            (ap (λ r. told tolerance (readable r ++ events_of base given)) (sym e)),
      )

read_base : (c : Channel) (r : Reading) → (step_read c r).base ≡ c.base
read_base c (Ok p) = judged_base c p (kept_refusal c.tolerance c.kept p)
read_base c (Err fault) = refl

read_tolerance : (c : Channel) (r : Reading) → (step_read c r).tolerance ≡ c.tolerance
read_tolerance c (Ok p) = judged_tolerance c p (kept_refusal c.tolerance c.kept p)
read_tolerance c (Err fault) = refl

pub step_follows : StepFollows
step_follows c bytes given s =
    subst (λ k. AnswersAs (record c { kept = k }) bytes given (says (record c { kept = k }) bytes) (step (record c { kept = k }) bytes)) (sym s.kept)
    (let now = one_step c.base c.tolerance c.text given bytes s.text (reading limited c.base bytes) refl in
    let old = record c { kept = kept_of (told_by c.base c.tolerance given) } in
    record { answer = now.0; stands = now.1; base = read_base old (reading limited c.base bytes); tolerance = read_tolerance old (reading limited c.base bytes) })

steps_step : (b : Bool) (old : Channel) (bytes : List ℕ) (given : List Given) (result : Result Refreshed RefreshFault) (new : Channel) → StepsUnless b old bytes result new
    → Represents old given → AnswersUnless b old bytes given result new
steps_step true old bytes given result new h s = h
steps_step false old bytes given result new h s =
    let a = step_follows old bytes given s in
    record {
      answer = h.says ∙ a.answer;
      stands = subst (λ c. Represents c (refreshed bytes ∷ given)) (sym h.comes) a.stands;
      base = ap (λ (c : Channel). c.base) h.comes ∙ a.base;
      tolerance = ap (λ (c : Channel). c.tolerance) h.comes ∙ a.tolerance;
    }

pub steps_refresh : StepsRefresh
steps_refresh old bytes result new k given s = grind (arith, steps_step)

-- ---- decisions

store_on : (c : Channel) (store : Store) (event : Given) (given : List Given)
    → record (told_by c.base c.tolerance given) { store = store } ≡ told_by c.base c.tolerance (event ∷ given) → Represents c given → Represents (with_store c store) (event ∷ given)
store_on c store event given e s = record {
  kept = ap (λ (k : Kept). record k { store = store }) s.kept ∙ ap kept_of e;
  text = s.text ∙ ap text_after e;
}

pub decide_follows : DecideFollows
decide_follows c ds bytes given e s =
    store_on c (live.decide ds c.kept.store) (decided bytes) given
    (ap (λ (x : Store). record (told_by c.base c.tolerance given) { store = live.decide ds x }) (ap (λ (k : Kept). k.store) s.kept)
    ∙ ap (λ o. told c.tolerance (decisions_in o ++ events_of c.base given)) (sym e)) s

pub undecided_follows : UndecidedFollows
undecided_follows c fault bytes given e s = grind arith

pub withdraw_follows : WithdrawFollows
withdraw_follows c id given s = grind arith

-- ---- what is written

read_good : (base : Parts) (bytes : List ℕ) (r : Reading) → reading limited base bytes ≡ r → AllByRecursion CanBeGiven (readable r)
read_good base bytes (Ok p) e = (
  record {
    limits = can_be_written limited base bytes p e;
    denotes = can_be_written unlimited base bytes p (reads_what_is_denoted limited base bytes p e);
  },
  tt,
)
read_good base bytes (Err fault) e = tt

one_good : (base : Parts) (g : Given) → AllByRecursion CanBeGiven (events_in base g)
one_good base (decided bytes) = decided_good bytes (decisions_of bytes) refl
one_good base (withdrawn id) = (tt, tt)
one_good base (refreshed bytes) = read_good base bytes (reading limited base bytes) refl

all_good : (base : Parts) (given : List Given) → AllByRecursion CanBeGiven (events_of base given)
all_good base [] = tt
all_good base (g ∷ before) = both CanBeGiven (events_in base g) (events_of base before) (one_good base g) (all_good base before)

written : (tolerance : ℕ) (events : List Event) → AllByRecursion CanBeGiven events → (o : Option Playlist) → last_playlist (told tolerance events).accepted ≡ o
    → WritesOwed (told tolerance events) (option_map (owed_text (told tolerance events)) o)
written tolerance events good None e = e
written tolerance events good (Some p) e = (p, (e, refl, λ base. always_denotes tolerance events p base good e))

pub live_writes : ChannelWrites
live_writes c given s = grind (arith, written, all_good)
