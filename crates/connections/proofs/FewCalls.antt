-- How few calls of its device a client's turn takes.
use Rattle.std.proofs.Common.{◌≡◌, ℕ, zero, suc, ◌≤◌, ◌<◌, refl, sym, ◌∙◌, subst, inl, inr, arith}
use Rattle.std.specs.Prelude.{Option}
use Rattle.http_edge.specs.declared.serving.EdgeFault.{EdgeFault}
use Rattle.http_edge.specs.declared.serving.EdgeFault.TheVariants as ends
use Rattle.connections.specs.declared.conversation.Conversation.{Conversation}
use Rattle.connections.specs.declared.devices.Passage.TheVariants.{Bytes, HasFailed}
use Rattle.connections.specs.Devices.{DeviceStand, Calls}
use Rattle.connections.specs.Clients.{HasFewCalls}
use Rattle.connections.specs.Limits.{reads_in_turn, writes_in_turn}
use Rattle.connections.specs.Turns.{CalledAtMost, CalledOnce, MovedEach}
use Rattle.connections.specs.Wires.{GoesHeard, GoesTold}

pub called_none : (most : ℕ) (calls : Calls) → CalledAtMost most calls calls
unfolding CalledAtMost
called_none zero calls = refl
called_none (suc most) calls = inl refl

pub called_same : (most : ℕ) (old new : Calls) → new ≡ old → CalledAtMost most old new
called_same most old new e = subst (CalledAtMost most old) (sym e) (called_none most old)

-- each of some calls moved bytes
pub called_each : (n most : ℕ) (old new : Calls) → MovedEach n old new → n ≤ most → CalledAtMost most old new
unfolding MovedEach CalledAtMost
called_each zero most old new moved few = called_same most old new moved
called_each (suc n) zero old new moved few = absurd (omega (arith, few))
called_each (suc n) (suc most) old new (middle, moved, count, some, one) few = inr (middle, called_each n most old middle moved (omega (arith, few)), (Bytes count, one))

-- ... and one followed
pub called_then : (n most : ℕ) (old middle new : Calls) → MovedEach n old middle → CalledOnce middle new → n < most → CalledAtMost most old new
unfolding CalledAtMost
called_then n zero old middle new moved one few = absurd (omega (arith, few))
called_then n (suc most) old middle new moved one few = inr (middle, called_each n most old middle moved (omega (arith, few)), one)

-- ... of a device that is as it was since
pub called_same_then : {X : Type 0} (stand : X → DeviceStand) (n most : ℕ) (old : Calls) (middle new : X) → MovedEach n old (stand middle).calls → new ≡ middle → n ≤ most → CalledAtMost most old (stand new).calls
called_same_then stand n most old middle new moved e few = subst (λ d. CalledAtMost most old (stand d).calls) (sym e) (called_each n most old (stand middle).calls moved few)

-- one came before some others
pub called_first : (most : ℕ) (old middle new : Calls) → CalledOnce old middle → CalledAtMost most middle new → CalledAtMost (suc most) old new
unfolding CalledAtMost
called_first zero old middle new one few = inr (old, refl, subst (CalledOnce old) (sym few) one)
called_first (suc most) old middle new one (inl e) = inr (old, called_none (suc most) old, subst (CalledOnce old) (sym e) one)
called_first (suc most) old middle new one (inr (before, few, last)) = inr (before, called_first most old middle before one few, last)

-- one more may come
pub called_within : (most : ℕ) (old new : Calls) → CalledAtMost most old new → CalledAtMost (suc most) old new
unfolding CalledAtMost
called_within zero old new few = inl few
called_within (suc most) old new (inl e) = inl e
called_within (suc most) old new (inr (middle, few, last)) = inr (middle, called_within most old middle few, last)

-- ---- a device that is as it was between two calls

module _ {X : Type 0} (stand : X → DeviceStand) (most : ℕ) where
  pub called_once : (first old new : X) → first ≡ old → CalledOnce (stand old).calls (stand new).calls → CalledAtMost (suc most) (stand first).calls (stand new).calls
  called_once first old new e one =
      subst (λ d. CalledAtMost (suc most) (stand d).calls (stand new).calls) (sym e) (called_first most (stand old).calls (stand new).calls (stand new).calls one (called_none most (stand new).calls))

  pub called_once_before : (first old middle again new : X) → first ≡ old → CalledOnce (stand old).calls (stand middle).calls → again ≡ middle → CalledAtMost most (stand again).calls (stand new).calls
      → CalledAtMost (suc most) (stand first).calls (stand new).calls
  called_once_before first old middle again new e one f few =
      subst (λ d. CalledAtMost (suc most) (stand d).calls (stand new).calls) (sym e)
      (called_first most (stand old).calls (stand middle).calls (stand new).calls one (subst (λ d. CalledAtMost most (stand d).calls (stand new).calls) f few))

  pub called_none_before : (first old again new : X) → first ≡ old → again ≡ old → CalledAtMost most (stand again).calls (stand new).calls → CalledAtMost (suc most) (stand first).calls (stand new).calls
  called_none_before first old again new e f few =
      called_within most (stand first).calls (stand new).calls (subst (λ d. CalledAtMost most (stand d).calls (stand new).calls) (f ∙ sym e) few)

-- ---- a turn

module _ {X : Type 0} (incoming outgoing : X → DeviceStand) where
  pub few_heard : (first old after : X) → first ≡ old → CalledAtMost reads_in_turn (incoming old).calls (incoming after).calls → HasFewCalls incoming outgoing first after
  few_heard first old after e reads = record {
    device = after;
    reads = subst (λ d. CalledAtMost reads_in_turn (incoming d).calls (incoming after).calls) (sym e) reads;
    writes = called_none writes_in_turn (outgoing after).calls;
  }

  pub few_told : (first old again after : X) → first ≡ old → again ≡ old → CalledAtMost writes_in_turn (outgoing again).calls (outgoing after).calls → HasFewCalls incoming outgoing first after
  few_told first old again after e f writes = record {
    device = first;
    reads = called_none reads_in_turn (incoming first).calls;
    writes = subst (λ d. CalledAtMost writes_in_turn (outgoing d).calls (outgoing after).calls) (f ∙ sym e) writes;
  }

  pub few_both : (first old device again after : X) → first ≡ old → CalledAtMost reads_in_turn (incoming old).calls (incoming device).calls → again ≡ device
      → CalledAtMost writes_in_turn (outgoing again).calls (outgoing after).calls → HasFewCalls incoming outgoing first after
  few_both first old device again after e reads f writes = record {
    device = device;
    reads = subst (λ d. CalledAtMost reads_in_turn (incoming d).calls (incoming device).calls) (sym e) reads;
    writes = subst (λ d. CalledAtMost writes_in_turn (outgoing d).calls (outgoing after).calls) f writes;
  }

-- ---- the last call of a client that goes

pub heard_once : (fault : EdgeFault) (old new : DeviceStand) (it : Option Conversation) → GoesHeard fault old new it → CalledOnce old.calls new.calls
heard_once ends.Read old new it h = (HasFailed, h.one)
heard_once ends.Ended old new it h = (Bytes 0, h.0.one)
heard_once ends.TooManyReads old new it (piece, gave, many) = (_, gave.one)
heard_once ends.OutOfMemory old new it (piece, gave) = (_, gave.one)
heard_once ends.Write old new it h = absurd h

pub told_once : (fault : EdgeFault) (old new : DeviceStand) → GoesTold fault old new → CalledOnce old.calls new.calls
told_once ends.Write old new (inl h) = (HasFailed, h.one)
told_once ends.Write old new (inr h) = (Bytes 0, h.one)
told_once ends.Read old new h = absurd h
told_once ends.Ended old new h = absurd h
told_once ends.TooManyReads old new h = absurd h
told_once ends.OutOfMemory old new h = absurd h
