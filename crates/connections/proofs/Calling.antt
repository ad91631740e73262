-- What leads from one line to another, and whom it calls.
use Rattle.std.proofs.Common.{◌≡◌, ℕ, ◌+◌, List, [], ◌∷◌, ◌++◌, refl, sym, ap, ◌∙◌, arith}
use Rattle.std.specs.Prelude.{Result, Ok, Err, OnOk, OnErr}
use Rattle.connections.specs.Lines.{LineState, LineEvent, joins, leaves, calls, after, after_call, next, line_after, calls_in, events_in, LineIsCalled}
use Rattle.connections.specs.Inner.Going.{LineGoesOn, RoundsGoOn}

-- events after other events
line_after_both : (line : LineState) (before later : List LineEvent) → line_after line (later ++ before) ≡ line_after (line_after line before) later
line_after_both line before [] = refl
line_after_both line before (e ∷ later) = ap (after e) (line_after_both line before later)

calls_in_both : (before later : List LineEvent) → calls_in (later ++ before) ≡ calls_in later + calls_in before
calls_in_both before [] = omega arith
calls_in_both before (joins place channel ∷ later) = calls_in_both before later
calls_in_both before (leaves place ∷ later) = calls_in_both before later
calls_in_both before (calls ∷ later) = grind (arith, calls_in_both before later)

pub leads_both : (first middle last : LineState) (before later : List LineEvent) → middle ≡ line_after first before → last ≡ line_after middle later → last ≡ line_after first (later ++ before)
leads_both first middle last before later b l = l ∙ ap (λ it. line_after it later) b ∙ sym (line_after_both first before later)

-- ---- a line goes on

pub line_stays : (old new : LineState) → new ≡ old → LineGoesOn old new
line_stays old new e = record { events = []; leads = e }

pub line_goes_by_one : (old new : LineState) (e : LineEvent) → new ≡ after e old → LineGoesOn old new
line_goes_by_one old new e h = record { events = e ∷ []; leads = h }

-- a client joins it, or there is no memory for that
pub join_goes_on : {A F : Type 0} (result : Result A F) (old new : LineState) (place channel : ℕ) → OnOk result (new ≡ after (joins place channel) old) → OnErr result (new ≡ old)
    → LineGoesOn old new
join_goes_on (Ok x) old new place channel joined stays = line_goes_by_one old new (joins place channel) joined
join_goes_on (Err e) old new place channel joined stays = line_stays old new stays

pub line_goes_on : (first middle last : LineState) → LineGoesOn first middle → LineGoesOn middle last → LineGoesOn first last
line_goes_on first middle last b l =
    record { events = l.events ++ b.events; leads = leads_both first middle last b.events l.events b.leads l.leads }

-- ---- one is called

pub line_is_called : (old new : LineState) → new ≡ after_call (next old) old → LineIsCalled old new
line_is_called old new h = record { events = calls ∷ []; leads = h; called = omega arith }

pub goes_on_after_call : (first middle last : LineState) → LineIsCalled first middle → LineGoesOn middle last → LineIsCalled first last
goes_on_after_call first middle last b l =
    record { events = l.events ++ b.events; leads = leads_both first middle last b.events l.events b.leads l.leads; called = grind (arith, calls_in_both b.events l.events, b.called) }

pub is_called_after : (first middle last : LineState) → LineGoesOn first middle → LineIsCalled middle last → LineIsCalled first last
is_called_after first middle last b l =
    record { events = l.events ++ b.events; leads = leads_both first middle last b.events l.events b.leads l.leads; called = grind (arith, calls_in_both b.events l.events, l.called) }

pub called_again : (first middle last : LineState) → LineIsCalled first middle → LineIsCalled middle last → LineIsCalled first last
called_again first middle last b l = is_called_after first middle last (record { events = b.events; leads = b.leads }) l

-- ---- rounds

pub no_round : (old new : LineState) → new ≡ old → RoundsGoOn old new
no_round old new e = record { rounds = []; leads = e; called = tt }

pub round_after : (first middle last : LineState) → RoundsGoOn first middle → LineIsCalled middle last → RoundsGoOn first last
round_after first middle last b l =
    record { rounds = l.events ∷ b.rounds; leads = leads_both first middle last (events_in b.rounds) l.events b.leads l.leads; called = (l.called, b.called) }
