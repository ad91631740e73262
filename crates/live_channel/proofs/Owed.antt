-- What a channel answers, in the words of all that it was given.
use Rattle.std.proofs.Common.{◌≡◌, ℕ, Bool, true, false, cond, List, [], ◌∷◌, ◌++◌, refl, ap, sym, ◌∙◌, subst, inl, inr, arith}
use Rattle.std.specs.Prelude.{◌↔◌, ◌⊎◌, Option, Some, None, Result, Ok, Err, IsOk, option_map, is_none, not, slice_get}
use Rattle.std.specs.List.{AllByRecursion, list_all}
use Rattle.url.specs.Parts.{Parts}
use Rattle.playlist_model.specs.declared.Playlist.{Playlist}
use Rattle.pod_store.specs.Marks.{Marked}
use Rattle.playlist_model.specs.LookBack.{or_earlier}
use Rattle.playlist_model.specs.Reading.{reading, limited}
use Rattle.stitcher.specs.Stitched.{can_be_numbered}
use Rattle.read_is_writable.proofs.Whole.{can_be_written}
use Rattle.pod_store.specs.Store.{Store, is_used}
use Rattle.pod_store.specs.Store.{withdrawn as without_break}
use Rattle.pod_store.specs.Outcome.{DecisionOutcome}
use Rattle.pod_store.specs.declared.Decisions.{Decisions}
use Rattle.pod_store.specs.declared.fault.DecisionFault.{DecisionFault}
use Rattle.break_finder.specs.Known.{Accepted, known}
use Rattle.break_finder.specs.Entering.{id_of_break, why}
use Rattle.break_finder.specs.declared.why.Why.{Why}
use Rattle.channel_spec.specs.declared.fault.RefreshFault.{RefreshFault}
use Rattle.channel_spec.specs.declared.fault.RefreshFault.TheVariants.{NumberRange}
use Rattle.channel_spec.specs.Sound.{IsSoundPlaylist, IsSoundEvent}
use Rattle.channel_spec.specs.Successor.{MayFollow, owed_heading_of, first_number, has_init_sections, fault_if}
use Rattle.channel_spec.specs.Live.{Event, Told, told, refusal, number_range_fault, succession_fault, last_playlist, whole_stitched_list, in_use, after_refresh, window_after, owed, owed_for}
use Rattle.channel_spec.specs.Live as live
use Rattle.channel_spec.specs.LiveLaws.{GoesOn, first_shown}
use Rattle.channel_spec.specs.Kept.{kept_of, listed, shown_by}
use Rattle.channel_spec.proofs.Listed.{shown_are_listed}
use Rattle.channel_spec.proofs.SameFault.{same_init}
use Rattle.stitcher.specs.declared.marked.MarkedSegment.{MarkedSegment as Held}
use Rattle.channel_window.specs.Marking.{history_in}
use Rattle.channel_window.specs.Listed.{window_segments_in}
use Rattle.channel_window.proofs.Found.{held_listed}
use Rattle.channel_spec.proofs.InUse.{used_are_in_use}
use Rattle.channel_spec.proofs.EachWindow.{only_grows, each_succeeds, plain_standing, holds}
use Rattle.channel_spec.proofs.Decided.{no_fault_succeeds}
use Rattle.channel_spec.proofs.LiveState.{StandingOf}
use Rattle.owed_is_denoted.proofs.Given.{is_read}
use Rattle.live_channel.specs.declared.channel.Refreshed.{Refreshed}
use Rattle.live_channel.specs.Channel.{Channel, Reading, Given, decided, withdrawn, refreshed, readable, decisions_in, events_of, told_by, Represents, judged, refreshed_with, answer_read, owed_answer, fresh_after, after_bytes, ChangesStore, ChangesStoreExactly, Decides, Withdraws, why_by, explained, owed_why_by, Explains, Knows}
use Rattle.live_channel.specs.ChannelLaws.{MayFollowLast, IsAcceptable, AcceptanceIsExact, StitchedListGrows, OwedPlaylistsSucceed}
use Rattle.live_channel.proofs.Steps.{all_given}

-- ---- decisions

is_ok : {A E : Type 0} (o : Result A E) (x : A) → o ≡ Ok x → IsOk o
is_ok (Ok y) x h = refl
is_ok (Err e) x h = absurd (cc)

pub decides : (old new : Channel) (bytes : List ℕ) (result : Result (Unit {0}) DecisionFault) → ChangesStore old new result (after_bytes old.kept.store bytes) → Decides old bytes result
decides old new bytes result h given s = grind arith

pub withdraws : (old new : Channel) (id : List ℕ) (result : Result (Unit {0}) DecisionFault) → ChangesStoreExactly old new result (without_break old.kept.store id) → Withdraws old id result
withdraws old new id result h given s = grind arith

-- ---- what is known, and why

pub knows : (c : Channel) (place : ℕ) (result : Option (List ℕ)) → result ≡ option_map id_of_break (slice_get c.kept.breaks place) → Knows c place result
knows c place result h given s = grind arith

first_is : (accepted : List Accepted) (last : Playlist) → last_playlist accepted ≡ Some last → first_shown accepted ≡ first_number last.segments
first_is accepted last e = grind arith

explain_step : (tolerance : ℕ) (events : List Event) (id : List ℕ) → AllByRecursion IsSoundEvent events → (o : Option Playlist) → last_playlist (told tolerance events).accepted ≡ o
    → why_by (option_map owed_heading_of o) (kept_of (told tolerance events)) id ≡ owed_why_by (told tolerance events) o id
explain_step tolerance events id sound None e = refl
explain_step tolerance events id sound (Some last) e =
    let t = told tolerance events in
    let law = shown_are_listed tolerance events last (owed_for t last) (record { sound = sound; accepted = e; owed = ap (option_map (owed_for t)) e }) in
    let sections : has_init_sections (listed (shown_by (last_playlist t.accepted) t.history)) ≡ has_init_sections last.segments =
    ap (λ o. has_init_sections (listed (shown_by o t.history))) e ∙ same_init (listed (shown_by (Some last) t.history)) last.segments law in
    ap (λ m. why (known t.accepted) id last.target_duration m t.store (is_used t.store id)) sections
    ∙ ap (λ b. why (known t.accepted) id last.target_duration (has_init_sections last.segments) t.store b)
    (used_are_in_use tolerance events id sound ∙ ap (λ n. in_use t.start n t.history id) (first_is t.accepted last e))

-- as it is held
pub explained_so : (store : Store) (held : List Held) → has_init_sections (window_segments_in held) ≡ has_init_sections (listed (history_in store held))
explained_so store held = ap has_init_sections (sym (held_listed store held))

pub explains : (c : Channel) (id : List ℕ) (result : Why) → result ≡ explained c.kept id → Explains c id result
explains c id result h given s = grind (arith, explain_step, all_given)

-- ---- acceptance

none_parts : (a b : Option RefreshFault) → or_earlier a b ≡ None → (a ≡ None) × (b ≡ None)
none_parts None b e = (refl, e)
none_parts (Some x) b e = absurd (cc)

parts_none : (a b : Option RefreshFault) → a ≡ None → b ≡ None → or_earlier a b ≡ None
parts_none None b e f = f
parts_none (Some x) b e f = absurd (cc)

all_fit : (b : Bool) → fault_if (not b) NumberRange ≡ None → b ≡ true
all_fit true e = refl
all_fit false e = absurd (cc)

last_sound : (accepted : List Accepted) (history : List Marked) (last : Playlist) → StandingOf accepted history → last_playlist accepted ≡ Some last → IsSoundPlaylist last
unfolding StandingOf
last_sound accepted history last s e = grind arith

succeeds_last : (accepted : List Accepted) (history : List Marked) (p : Playlist) → StandingOf accepted history → IsSoundPlaylist p → (o : Option Playlist) → last_playlist accepted ≡ o
    → (succession_fault o p ≡ None) ↔ MayFollowLast o p
succeeds_last accepted history p s r o e = grind (arith, no_fault_succeeds, last_sound)

judged_ok : (o : Option RefreshFault) (done : Refreshed) → IsOk (judged o done) → o ≡ None
judged_ok None done h = refl
judged_ok (Some fault) done h = absurd (cc)

module _ (c : Channel) (given : List Given) (bytes : List ℕ) (s : Represents c given) where
  abbrev t : Told
  t = told_by c.base c.tolerance given

  sound : (p : Playlist) → reading limited c.base bytes ≡ Ok p → IsSoundPlaylist p
  sound p e = is_read p (can_be_written limited c.base bytes p e)

  follows : (p : Playlist) → reading limited c.base bytes ≡ Ok p → (succession_fault (last_playlist t.accepted) p ≡ None) ↔ MayFollowLast (last_playlist t.accepted) p
  follows p e =
      succeeds_last t.accepted t.history p (plain_standing t.accepted t.history t.start (holds c.tolerance (events_of c.base given) (all_given c.base given)).standing) (sound p e) (last_playlist t.accepted) refl

  accepted_step : (r : Reading) → reading limited c.base bytes ≡ r → IsOk (answer_read c.tolerance t r) → IsAcceptable c given bytes
  accepted_step (Err fault) e h = absurd (cc)
  accepted_step (Ok p) e h =
      let a = none_parts (succession_fault (last_playlist t.accepted) p) (number_range_fault (after_refresh c.tolerance t p)) (judged_ok (refusal c.tolerance t p) _ h) in
      record {
        playlist = p;
        read = e;
        succeeds = (follows p e).0 a.0;
        fits = all_fit (list_all can_be_numbered (whole_stitched_list (after_refresh c.tolerance t p))) a.1;
      }

  answered : IsAcceptable c given bytes → IsOk (owed_answer c given bytes)
  answered a =
      let p = a.playlist in
      let none : refusal c.tolerance t p ≡ None =
      parts_none (succession_fault (last_playlist t.accepted) p) (number_range_fault (after_refresh c.tolerance t p)) ((follows p a.read).1 a.succeeds) (ap (λ b. fault_if (not b) NumberRange) a.fits) in
      let done = refreshed_with (window_after (after_refresh c.tolerance t p) p) (fresh_after t.history p) in
      subst (λ r. IsOk (answer_read c.tolerance t r)) (sym a.read) (subst (λ o. IsOk (judged o done)) (sym none) refl)

pub acceptance_is_exact : AcceptanceIsExact
acceptance_is_exact c given bytes s = (accepted_step c given bytes s (reading limited c.base bytes) refl, answered c given bytes s)

-- ---- what was written stays

events_after : (base : Parts) (later before : List Given) → events_of base (later ++ before) ≡ events_of base later ++ events_of base before
events_after base [] before = refl
events_after base (g ∷ later) before = grind (arith, events_after base later before)

pub stitched_list_grows : StitchedListGrows
stitched_list_grows base tolerance later before =
    subst (λ (es : List Event). GoesOn (whole_stitched_list (told tolerance (events_of base before))) (whole_stitched_list (told tolerance es))) (sym (events_after base later before))
    (only_grows tolerance (events_of base later) (events_of base before) (subst (λ (es : List Event). AllByRecursion IsSoundEvent es) (events_after base later before) (all_given base (later ++ before))))

same_owed : (old new : Playlist) (o p : Option Playlist) → o ≡ Some old → p ≡ Some new → p ≡ o → (new ≡ old) ⊎ MayFollow new old
same_owed old new o p e f same = inl (cc)

refused_step : (tolerance : ℕ) (events : List Event) (p old new : Playlist) → AllByRecursion IsSoundEvent (live.refreshed p ∷ events) → owed (told tolerance events) ≡ Some old
    → (o : Option RefreshFault) → refusal tolerance (told tolerance events) p ≡ o
    → owed (cond (is_none o) (after_refresh tolerance (told tolerance events) p) (told tolerance events)) ≡ Some new → (new ≡ old) ⊎ MayFollow new old
refused_step tolerance events p old new g e (Some fault) r f = same_owed old new (owed (told tolerance events)) (owed (told tolerance events)) e f refl
refused_step tolerance events p old new g e None r f =
    let now : told tolerance (live.refreshed p ∷ events) ≡ after_refresh tolerance (told tolerance events) p = ap (λ o. cond (is_none o) (after_refresh tolerance (told tolerance events) p) (told tolerance events)) r in
    let same : owed_for (after_refresh tolerance (told tolerance events) p) p ≡ new = cc in
    inr (subst (λ (q : Playlist). MayFollow q old) (ap (λ t. owed_for t p) now ∙ same) (each_succeeds tolerance p events old g r e))

read_step : (base : Parts) (tolerance : ℕ) (bytes : List ℕ) (events : List Event) (old new : Playlist) → AllByRecursion IsSoundEvent events → owed (told tolerance events) ≡ Some old
    → (r : Reading) → reading limited base bytes ≡ r → owed (told tolerance (readable r ++ events)) ≡ Some new → (new ≡ old) ⊎ MayFollow new old
read_step base tolerance bytes events old new g e (Err fault) k f = same_owed old new (owed (told tolerance events)) (owed (told tolerance events)) e f refl
read_step base tolerance bytes events old new g e (Ok p) k f =
    refused_step tolerance events p old new (is_read p (can_be_written limited base bytes p k), g) e (refusal tolerance (told tolerance events) p) refl f

decided_step : (tolerance : ℕ) (events : List Event) (old new : Playlist) (o : DecisionOutcome Decisions) → owed (told tolerance events) ≡ Some old
    → owed (told tolerance (decisions_in o ++ events)) ≡ Some new → (new ≡ old) ⊎ MayFollow new old
decided_step tolerance events old new (Ok ds) e f = grind arith
decided_step tolerance events old new (Err fault) e f = grind arith

pub owed_playlists_succeed : OwedPlaylistsSucceed
owed_playlists_succeed base tolerance (decided bytes) before old new e f = grind (arith, decided_step)
owed_playlists_succeed base tolerance (withdrawn id) before old new e f = grind (arith, decided_step)
owed_playlists_succeed base tolerance (refreshed bytes) before old new e f = grind (arith, read_step, all_given)
