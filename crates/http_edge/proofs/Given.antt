-- A channel and what it was given, before an event and after it.
use Rattle.std.proofs.Common.{◌≡◌, ◌≢◌, ℕ, List, ◌∷◌, ◌++◌, ap, sym, ◌∙◌, subst, false, refl, arith}
use Rattle.std.specs.Prelude.{Result, Ok, Err, IfOk}
use Rattle.url.specs.Parts.{Parts}
use Rattle.playlist_model.specs.Reading.{reading, limited}
use Rattle.pod_store.specs.Outcome.{no_memory, RefusesByDecisionFault}
use Rattle.pod_store.specs.declared.fault.DecisionFault.{DecisionFault}
use Rattle.channel_spec.specs.declared.fault.RefreshFault.{RefreshFault}
use Rattle.channel_spec.specs.Live.{Event, Told, told}
use Rattle.channel_spec.specs.Kept.{kept_of}
use Rattle.live_channel.specs.declared.channel.Refreshed.{Refreshed}
use Rattle.live_channel.specs.Channel.{Reading, readable, Channel, Represents, told_by, text_after, events_of, refreshed, decided, answer_read, explained, owed_why, AnswersAs, AnswersUnless, is_out_of_memory, AnswersRefresh, after_bytes}
use Rattle.live_channel.specs.Channel as channel
use Rattle.http_messages.specs.declared.message.Reply.{Reply}
use Rattle.http_edge.specs.Channels.{GivenChannel, IsGiven, told_of, owed_playlist_text}
use Rattle.live_channel.proofs.Owed.{explains}
use Rattle.break_finder.specs.Known.{known}
use Rattle.channel_api.specs.Replies.{why_text, decisions_reply}
use Rattle.http_edge.specs.Replies.{refresh_reply, refresh_owed, decisions_owed}
use Rattle.http_edge.specs.Inner.Events.{TakesOne}

-- ---- what stands for the same

module _ (c : Channel) (given : GivenChannel) (h : IsGiven c given) where
  abbrev told_at : Parts → ℕ → Told
  told_at base tolerance = told_by base tolerance given.events

  same_told : told_by c.base c.tolerance given.events ≡ told_of given
  same_told = ap (λ b. told_at b c.tolerance) h.base ∙ ap (λ n. told_at given.base n) h.tolerance

  pub kept_is : c.kept ≡ kept_of (told_of given)
  kept_is = h.stands.kept ∙ ap kept_of same_told

  reason_is : (id : List ℕ) → explained c.kept id ≡ owed_why (told_of given) id
  reason_is id = explains c id (explained c.kept id) refl given.events h.stands ∙ ap (λ told. owed_why told id) same_told

  pub why_is : why_text (explained c.kept) c.kept.breaks ≡ why_text (owed_why (told_of given)) (known (told_of given).accepted)
  why_is = λ i. why_text (λ id. reason_is id i) (kept_is i).breaks

  pub text_is : c.text ≡ owed_playlist_text given
  text_is = h.stands.text ∙ ap text_after same_told

  abbrev answer_at : List ℕ → Parts → ℕ → Result Refreshed RefreshFault
  answer_at bytes base tolerance = answer_read tolerance (told_at base tolerance) (reading limited base bytes)

  same_answer : (bytes : List ℕ) → answer_at bytes c.base c.tolerance ≡ answer_at bytes given.base given.tolerance
  same_answer bytes = ap (λ b. answer_at bytes b c.tolerance) h.base ∙ ap (λ n. answer_at bytes given.base n) h.tolerance

-- ---- a refresh that is refused tells nothing

untold : (tolerance : ℕ) (events : List Event) (r : Reading) (fault : RefreshFault) → answer_read tolerance (told tolerance events) r ≡ Err fault
    → told tolerance (readable r ++ events) ≡ told tolerance events
untold tolerance events r fault e = grind arith

left_out : (c : Channel) (bytes : List ℕ) (given : List channel.Given) (fault : RefreshFault)
    → answer_read c.tolerance (told_by c.base c.tolerance given) (reading limited c.base bytes) ≡ Err fault → Represents c (refreshed bytes ∷ given) → Represents c given
left_out c bytes given fault e s =
    let same = untold c.tolerance (events_of c.base given) (reading limited c.base bytes) fault e in
    record { kept = s.kept ∙ ap kept_of same; text = s.text ∙ ap text_after same }

-- ---- a refresh

module _ (old new : Channel) (bytes : List ℕ) (given : GivenChannel) (h : IsGiven old given) where
  answers : (result : Result Refreshed RefreshFault) → is_out_of_memory result ≡ false → AnswersRefresh old bytes given.events result new → AnswersAs old bytes given.events result new
  answers result e a = subst (λ b. AnswersUnless b old bytes given.events result new) e a

  refused_left : (fault : RefreshFault) → AnswersAs old bytes given.events (Err fault) new → IsGiven new given
  refused_left fault a =
      let owed = sym a.answer in
      let moved = ap (λ b. answer_read old.tolerance (told_by b old.tolerance given.events) (reading limited b bytes)) a.base
      ∙ owed in
      let at_new = ap (λ n. answer_read n (told_by new.base n given.events) (reading limited new.base bytes)) a.tolerance ∙ moved in
      record { base = a.base ∙ h.base; tolerance = a.tolerance ∙ h.tolerance; stands = left_out new bytes given.events fault at_new a.stands }

  pub refresh_refused : {E : Type 0} (fault : RefreshFault) (r : Result Reply E) → is_out_of_memory (Err fault) ≡ false → AnswersRefresh old bytes given.events (Err fault) new
      → IfOk r (λ reply. reply ≡ refresh_reply (Err fault)) → TakesOne (refreshed bytes) (refresh_owed bytes) given r new
  refresh_refused fault (Ok reply) e a q = grind arith
  refresh_refused fault (Err x) e a q = refused_left fault (answers (Err fault) e a)

-- ---- decisions

module _ (old new : Channel) (bytes : List ℕ) (given : GivenChannel) (h : IsGiven old given) where
  pub decisions_refused : {E : Type 0} (fault : DecisionFault) (r : Result Reply E) → fault ≢ no_memory → (new ≡ old) × RefusesByDecisionFault fault (after_bytes old.kept.store bytes)
      → (fault ≢ no_memory → Represents new (decided bytes ∷ given.events)) → IfOk r (λ reply. reply ≡ decisions_reply (Err fault))
      → TakesOne (decided bytes) (decisions_owed bytes) given r new
  decisions_refused fault r n o s q = grind arith
