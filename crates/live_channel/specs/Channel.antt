-- What a channel stands for, after the list of all that it was given, the newest first.
use Rattle.std.specs.Prelude.{◌≡◌, ◌≢◌, ℕ, Bool, true, false, List, [], ◌∷◌, ◌++◌, map, filter, length, Option, Some, None, option_map, Result, Ok, Err, IsOk, MatchResult, slice_get}
use Rattle.url.specs.Parts.{Parts}
use Rattle.playlist_model.specs.declared.Playlist.{Playlist}
use Rattle.playlist_kept.specs.declared.source.LastPlaylist.{LastPlaylist}
use Rattle.playlist_model.specs.declared.PlaylistFault.{PlaylistFault}
use Rattle.pod_store.specs.Marks.{Marked}
use Rattle.playlist_model.specs.Reading.{reading, limited, Denotes}
use Rattle.stitcher.specs.Stitched.{Item}
use Rattle.playlist_write.specs.declared.OutPlaylist.{OutPlaylist}
use Rattle.playlist_write.specs.Owed.{playlist_text}
use Rattle.playlist_write.specs.declared.resumed.WrittenText.{WrittenText}
use Rattle.pod_store.specs.Store.{Store, is_used}
use Rattle.pod_store.specs.Store.{decided as after_decisions}
use Rattle.pod_store.specs.Store.{withdrawn as without_break}
use Rattle.decision_files.specs.Decided.{decisions_of}
use Rattle.spec_words.specs.Outcomes.{◌>>=◌}
use Rattle.pod_store.specs.Outcome.{DecisionOutcome, no_memory, RefusesByDecisionFault}
use Rattle.pod_store.specs.declared.Decisions.{Decisions}
use Rattle.pod_store.specs.declared.Decisions.TheVariants.{Withdraw}
use Rattle.pod_store.specs.declared.fault.DecisionFault.{DecisionFault}
use Rattle.stitcher.specs.Written.{written_item}
use Rattle.channel_spec.specs.declared.fault.RefreshFault.{RefreshFault}
use Rattle.channel_spec.specs.declared.fault.RefreshFault.TheVariants.{Playlist as Unreadable, OutOfMemory}
use Rattle.break_finder.specs.Entering.{id_of_break, why}
use Rattle.break_finder.specs.Known.{known}
use Rattle.break_finder.specs.declared.why.Why.{Why}
use Rattle.break_finder.specs.declared.why.Why.TheVariants.{NotKnown}
use Rattle.channel_spec.specs.Successor.{first_number, has_init_sections}
use Rattle.channel_spec.specs.Marking.{is_new}
use Rattle.channel_spec.specs.Live.{Event, Told, told, refusal, last_playlist, in_use, after_refresh, window_after, owed_for, date_range_text}
use Rattle.channel_spec.specs.Live as live
use Rattle.channel_spec.specs.Kept.{Kept, listed, head_numbers, kept_of, kept_refusal, kept_after, kept_window, date_ranges_after}
use Rattle.owed_is_denoted.specs.Owed.{out_playlist, owed_text}
use Rattle.playlist_model.specs.Same.{kept_parts}
use Rattle.channel_spec.specs.declared.heading.Heading.{Heading}
use Rattle.channel_window.specs.Listed.{window_segments_in}
use Rattle.stitcher.specs.declared.marked.MarkedSegment.{MarkedSegment as Held}
use Rattle.live_channel.specs.declared.channel.Refreshed.{Refreshed}
use Rattle.channel_window.specs.declared.state.ChannelState.{ChannelState}
use Rattle.channel_window.specs.Showing.{kept_in}

-- ---- what is given

-- a decision file's bytes, the ID of a withdrawal, a playlist's bytes
pub data Given : Type 0 where
  decided : List ℕ → Given
  withdrawn : List ℕ → Given
  refreshed : List ℕ → Given

abbrev pub Reading : Type 0
Reading = Result Playlist PlaylistFault

-- bytes that can't be read are no event
abbrev pub readable : Reading → List Event
readable (Ok p) = live.refreshed p ∷ []
readable (Err fault) = []

-- nor are those that say no decisions
abbrev pub decisions_in : DecisionOutcome Decisions → List Event
decisions_in (Ok ds) = live.decided ds ∷ []
decisions_in (Err fault) = []

abbrev pub events_in : Parts → Given → List Event
events_in base (decided bytes) = decisions_in (decisions_of bytes)
events_in base (withdrawn id) = live.decided (Withdraw id) ∷ []
events_in base (refreshed bytes) = readable (reading limited base bytes)

abbrev pub events_of : Parts → List Given → List Event
events_of base [] = []
events_of base (given ∷ before) = events_in base given ++ events_of base before

-- all that it was told
abbrev pub told_by : Parts → ℕ → List Given → Told
told_by base tolerance given = told tolerance (events_of base given)

-- the text that is owed then
abbrev pub text_after : Told → Option (List ℕ)
text_after t = option_map (owed_text t) (last_playlist t.accepted)

-- ---- what a channel is

pub record Channel : Type 0 where
  pub base : Parts
  pub tolerance : ℕ
  pub kept : Kept
  pub text : Option (List ℕ)

-- the channel stands for all that it was given
pub record Represents (c : Channel) (given : List Given) : Type 0 where
  pub kept : c.kept ≡ kept_of (told_by c.base c.tolerance given)
  pub text : c.text ≡ text_after (told_by c.base c.tolerance given)

-- ---- what a refresh answers

abbrev pub refreshed_with : List Item → ℕ → Refreshed
refreshed_with window fresh = record { media_sequence = (head_numbers window).media_sequence; segments = length window; fresh = fresh }

abbrev pub judged : Option RefreshFault → Refreshed → Result Refreshed RefreshFault
judged None done = Ok done
judged (Some fault) done = Err fault

abbrev pub fresh_after : List Marked → Playlist → ℕ
fresh_after history p = length (filter (is_new history) p.segments)

-- the answer that is owed to a refresh, after all that was told
abbrev pub answer_read : ℕ → Told → Reading → Result Refreshed RefreshFault
answer_read tolerance t (Ok p) = judged (refusal tolerance t p) (refreshed_with (window_after (after_refresh tolerance t p) p) (fresh_after t.history p))
answer_read tolerance t (Err fault) = Err (Unreadable fault)

abbrev pub owed_answer : Channel → List Given → List ℕ → Result Refreshed RefreshFault
owed_answer c given bytes = answer_read c.tolerance (told_by c.base c.tolerance given) (reading limited c.base bytes)

-- whether an allocation failed
abbrev pub is_out_of_memory : Result Refreshed RefreshFault → Bool
is_out_of_memory (Ok done) = false
is_out_of_memory (Err OutOfMemory) = true
is_out_of_memory (Err _) = false

-- the answer is the one owed, and the channel stands for one event more
pub record AnswersAs (old : Channel) (bytes : List ℕ) (given : List Given) (result : Result Refreshed RefreshFault) (new : Channel) : Type 0 where
  pub answer : result ≡ owed_answer old given bytes
  pub stands : Represents new (refreshed bytes ∷ given)
  pub base : new.base ≡ old.base
  pub tolerance : new.tolerance ≡ old.tolerance

-- a failed allocation aside, after which the channel is as it was
abbrev pub AnswersUnless : Bool → Channel → List ℕ → List Given → Result Refreshed RefreshFault → Channel → Type 0
AnswersUnless true old bytes given result new = new ≡ old
AnswersUnless false old bytes given result new = AnswersAs old bytes given result new

abbrev pub AnswersRefresh : Channel → List ℕ → List Given → Result Refreshed RefreshFault → Channel → Type 0
AnswersRefresh old bytes given result new = AnswersUnless (is_out_of_memory result) old bytes given result new

-- whatever it stood for
abbrev pub Refreshes : Channel → List ℕ → Result Refreshed RefreshFault → Channel → Type 0
Refreshes old bytes result new = (given : List Given) → Represents old given → AnswersRefresh old bytes given result new

-- ---- the same from what is kept

abbrev pub live_playlist_after : ℕ → Kept → Playlist → OutPlaylist
live_playlist_after tolerance kept p = out_playlist p (map date_range_text (date_ranges_after tolerance kept p)) (map written_item (kept_window tolerance kept p))

abbrev pub step_judged : Channel → Playlist → Option RefreshFault → Channel
step_judged c p None = record c { kept = kept_after c.tolerance c.kept p; text = Some (playlist_text (live_playlist_after c.tolerance c.kept p)) }
step_judged c p (Some fault) = c

abbrev pub step_read : Channel → Reading → Channel
step_read c (Ok p) = step_judged c p (kept_refusal c.tolerance c.kept p)
step_read c (Err fault) = c

-- the channel after a refresh
abbrev pub step : Channel → List ℕ → Channel
step c bytes = step_read c (reading limited c.base bytes)

abbrev pub says_read : Channel → Reading → Result Refreshed RefreshFault
says_read c (Ok p) = judged (kept_refusal c.tolerance c.kept p) (refreshed_with (kept_window c.tolerance c.kept p) (fresh_after c.kept.shown p))
says_read c (Err fault) = Err (Unreadable fault)

-- what it answers
abbrev pub says : Channel → List ℕ → Result Refreshed RefreshFault
says c bytes = says_read c (reading limited c.base bytes)

pub record StepsAs (old : Channel) (bytes : List ℕ) (result : Result Refreshed RefreshFault) (new : Channel) : Type 0 where
  pub says : result ≡ says old bytes
  pub comes : new ≡ step old bytes

-- a refresh of what is kept, a failed allocation aside, after which the channel is as it was
abbrev pub StepsUnless : Bool → Channel → List ℕ → Result Refreshed RefreshFault → Channel → Type 0
StepsUnless true old bytes result new = new ≡ old
StepsUnless false old bytes result new = StepsAs old bytes result new

abbrev pub Steps : Channel → List ℕ → Result Refreshed RefreshFault → Channel → Type 0
Steps old bytes result new = StepsUnless (is_out_of_memory result) old bytes result new

-- ---- decisions

-- the store after the decisions that these bytes say, or their fault
abbrev pub after_bytes : Store → List ℕ → DecisionOutcome Store
after_bytes store bytes = decisions_of bytes >>= after_decisions store

abbrev pub with_store : Channel → Store → Channel
with_store c store = record c { kept = record c.kept { store = store } }

-- the store that all that was given leads to, and what a decision file and a withdrawal come to then
abbrev pub store_by : Channel → List Given → Store
store_by c given = (told_by c.base c.tolerance given).store

-- taken exactly if the outcome is a store; else the fault is the first one, a failed allocation apart
abbrev pub AnswersDecision : Result (Unit {0}) DecisionFault → DecisionOutcome Store → Type 0
AnswersDecision result outcome = MatchResult result (λ _. IsOk outcome) (λ e. RefusesByDecisionFault e outcome)

abbrev pub AnswersWithdrawal : Result (Unit {0}) DecisionFault → DecisionOutcome Store → Type 0
AnswersWithdrawal result outcome = MatchResult result (λ _. IsOk outcome) (λ e. outcome ≡ Err e)

abbrev pub Decides : Channel → List ℕ → Result (Unit {0}) DecisionFault → Type 0
Decides c bytes result = (given : List Given) → Represents c given → AnswersDecision result (after_bytes (store_by c given) bytes)

abbrev pub Withdraws : Channel → List ℕ → Result (Unit {0}) DecisionFault → Type 0
Withdraws c id result = (given : List Given) → Represents c given → AnswersWithdrawal result (without_break (store_by c given) id)

-- the store changes alone; or the fault is the one owed, a failed allocation apart, and the channel is as it was
abbrev pub ChangesStore : Channel → Channel → Result (Unit {0}) DecisionFault → DecisionOutcome Store → Type 0
ChangesStore old new result outcome = MatchResult result (λ _. (outcome ≡ Ok new.kept.store) × (new ≡ with_store old new.kept.store)) (λ e. (new ≡ old) × RefusesByDecisionFault e outcome)

-- the same of a call that takes no memory: the fault is the one owed
abbrev pub ChangesStoreExactly : Channel → Channel → Result (Unit {0}) DecisionFault → DecisionOutcome Store → Type 0
ChangesStoreExactly old new result outcome = MatchResult result (λ _. (outcome ≡ Ok new.kept.store) × (new ≡ with_store old new.kept.store)) (λ e. (new ≡ old) × (outcome ≡ Err e))

-- a failed allocation apart, the channel stands for one event more
abbrev pub StandsOn : Channel → Given → Result (Unit {0}) DecisionFault → Channel → Type 0
StandsOn old event result new = (given : List Given) → Represents old given → MatchResult result (λ _. Represents new (event ∷ given)) (λ e. e ≢ no_memory → Represents new (event ∷ given))

-- the channel stands for one event more
abbrev pub AlwaysStandsOn : Channel → Given → Channel → Type 0
AlwaysStandsOn old event new = (given : List Given) → Represents old given → Represents new (event ∷ given)

-- ---- what is written

-- a text is written, exactly if a refresh was accepted, and it denotes, under every base, what is owed for all that was given
abbrev pub WritesOwed : Told → Option (List ℕ) → Type 0
WritesOwed t None = last_playlist t.accepted ≡ None
WritesOwed t (Some text) = (p : Playlist) × ((last_playlist t.accepted ≡ Some p) × (text ≡ owed_text t p) × ((base : Parts) → Denotes base text (owed_for t p)))

abbrev pub WritesWhatIsOwed : Channel → Type 0
WritesWhatIsOwed c = (given : List Given) → Represents c given → WritesOwed (told_by c.base c.tolerance given) c.text

-- ---- why a break is filled or not

-- by the heading of the last playlist and the segments that are shown, what is known since, and the store now; before the first
-- refresh nothing is known
abbrev pub why_by : Option Heading → Kept → List ℕ → Why
why_by None kept id = NotKnown
why_by (Some last) kept id = why kept.breaks id last.target_duration (has_init_sections (listed kept.shown)) kept.store (is_used kept.store id)

abbrev pub explained : Kept → List ℕ → Why
explained kept id = why_by kept.last kept id

-- the same of all that was told: a break is filled if it is in use
abbrev pub owed_why_by : Told → Option Playlist → List ℕ → Why
owed_why_by t None id = NotKnown
owed_why_by t (Some last) id = why (known t.accepted) id last.target_duration (has_init_sections last.segments) t.store (in_use t.start (first_number last.segments) t.history id)

abbrev pub owed_why : Told → List ℕ → Why
owed_why t id = owed_why_by t (last_playlist t.accepted) id

abbrev pub Explains : Channel → List ℕ → Why → Type 0
Explains c id result = (given : List Given) → Represents c given → result ≡ owed_why (told_by c.base c.tolerance given) id

-- ---- the known breaks

-- the ID of the break at a place among those that looking back over all refreshes finds known
abbrev pub Knows : Channel → ℕ → Option (List ℕ) → Type 0
Knows c place result = (given : List Given) → Represents c given → result ≡ option_map id_of_break (slice_get (known (told_by c.base c.tolerance given).accepted) place)

-- ---- all channels

-- there is something that it was given
abbrev pub WasGivenSomething : Channel → Type 0
WasGivenSomething c = (given : List Given) × Represents c given

-- the segments that are held are those of the playlist that was read last, number for number, in all but title, time and steps
abbrev pub IsListed : Option LastPlaylist → List Held → Type 0
IsListed None held = Unit {0}
IsListed (Some source) held = map kept_parts (window_segments_in held) ≡ map kept_parts source.segments.items

-- the text of what was written last
abbrev pub text_in : Option WrittenText → Option (List ℕ)
text_in None = None
text_in (Some written) = Some written.text

abbrev pub channel_with : Parts → ℕ → ChannelState → Option (List ℕ) → Channel
channel_with base tolerance state text = record { base = base; tolerance = tolerance; kept = kept_in state; text = text }
