-- What happens at a place leaves all other connections.
use Rattle.std.proofs.Common.{◌≡◌, ℕ, Bool, true, false, List, [], ◌∷◌, refl, ap, ◌∙◌, inl, inr}
use Rattle.std.specs.Prelude.{◌⊎◌, Option, Some, None, map}
use Rattle.http_edge.specs.declared.serving.EdgeFault.{EdgeFault}
use Rattle.connections.specs.declared.conversation.Conversation.{Conversation}
use Rattle.connections.specs.declared.turns.Turn.{Turn}
use Rattle.connections.specs.declared.turns.Turn.TheVariants.{Waits, Goes, Full, Done, Failed}
use Rattle.connections.specs.Clients.{HasTurned, HasTurnedUntil, TurnComesTo}
use Rattle.connections.specs.Devices.{DeviceStand}
use Rattle.connections.specs.Runs.{EventsLeadTo}
use Rattle.connections.specs.Table.{State, at, ConversationGoesOn, PutsAtPlace, reply_bytes}
use Rattle.connections.specs.Turns.{SaidWhileAsking}
use Rattle.adsplice.specs.Inner.Serving.{OthersStay, MayLeave}

pub others_none : (place : ℕ) (old new : State) → new ≡ old → OthersStay place old new
others_none place old new e = record { stay = λ other n. ap (λ (s : State). at s other) e }

pub others_both : (place : ℕ) (first middle last : State) → OthersStay place first middle → OthersStay place middle last → OthersStay place first last
others_both place first middle last b l = record { stay = λ other n. l.stay other n ∙ b.stay other n }

others_put : (place : ℕ) (old new : State) (it : Option Conversation) → PutsAtPlace old new place it → OthersStay place old new
others_put place old new it puts = record { stay = puts.others }

others_said : (place : ℕ) (old new : State) (piece : List ℕ) (it : Option Conversation) → ConversationGoesOn it old place piece new → OthersStay place old new
others_said place old new piece None goes = others_put place old new None goes.0
others_said place old new piece (Some conversation) (after, goes, puts) = others_put place old new (Some after) puts

others_heard : (place : ℕ) (old : State) (pieces : List (List ℕ)) (new : State) → SaidWhileAsking place old pieces new → OthersStay place old new
others_heard place old [] new e = others_none place old new e
others_heard place old (piece ∷ before) new (middle, run, asking, happens) =
    others_both place old middle new (others_heard place old before middle run) (others_said place middle new piece (at middle place) happens)

others_told : (place : ℕ) (old : State) (pieces : List (List ℕ)) (new : State) → EventsLeadTo old (map (reply_bytes place) pieces) new → OthersStay place old new
others_told place old [] new e = others_none place old new e
others_told place old (piece ∷ before) new (middle, run, (rest, left, puts, edge)) =
    others_both place old middle new (others_told place old before middle run) (record { stay = puts.others })

module _ {X : Type 0} (incoming outgoing : X → DeviceStand) (place : ℕ) (before after : X) (old new : State) where
  others_turned : HasTurned incoming outgoing place before after old new → OthersStay place old new
  others_turned h =
      others_both place old h.state new (others_heard place old h.heard.pieces h.state h.heard.run) (others_told place h.state h.told.pieces new h.told.run)

  others_until : (fault : EdgeFault) → HasTurnedUntil incoming outgoing place before after old new fault → OthersStay place old new
  others_until fault (inl h) =
      others_both place old h.state new (others_heard place old h.listened.pieces h.state h.listened.run) (others_put place h.state new None h.happens.0)
  others_until fault (inr (device, state, listened, h)) =
      let told : OthersStay place state new = others_both place state h.state new (others_told place state h.spoken.pieces h.state h.spoken.run) (others_put place h.state new None h.happens.0) in
      others_both place old state new (others_heard place old listened.pieces state listened.run) told

  others_in_turn : (turn : Turn) → TurnComesTo incoming outgoing place before after old new turn → OthersStay place old new
  others_in_turn Waits h = others_turned h.turned
  others_in_turn Goes h = others_turned h.turned
  others_in_turn Full h = others_turned h.turned
  others_in_turn Done h = others_turned h.turned
  others_in_turn (Failed fault) h = others_until fault h.gone

  -- ... also of a client that is ending
  pub others_had : (turn : Turn) (ending : Bool) → (ending ≡ false → TurnComesTo incoming outgoing place before after old new turn) → (ending ≡ true → new ≡ old) → OthersStay place old new
  others_had turn true comes passed = others_none place old new (passed refl)
  others_had turn false comes passed = others_in_turn turn (comes refl)

-- ---- a connection that leaves

pub may_none : (place : ℕ) (old new : State) → new ≡ old → MayLeave place old new
may_none place old new e = record { others = λ other n. ap (λ (s : State). at s other) e; here = inl (ap (λ (s : State). at s place) e) }

may_both_here : {A : Type 0} (first middle last : Option A) → (middle ≡ first) ⊎ (middle ≡ None) → (last ≡ middle) ⊎ (last ≡ None) → (last ≡ first) ⊎ (last ≡ None)
may_both_here first middle last b (inr l) = inr l
may_both_here first middle last (inl b) (inl l) = inl (l ∙ b)
may_both_here first middle last (inr b) (inl l) = inr (l ∙ b)

pub may_both : (place : ℕ) (first middle last : State) → MayLeave place first middle → MayLeave place middle last → MayLeave place first last
may_both place first middle last b l = record {
  others = λ other n. l.others other n ∙ b.others other n;
  here = may_both_here (at first place) (at middle place) (at last place) b.here l.here;
}
