-- What leads from one table to another.
use Rattle.std.proofs.Common.{◌≡◌, List, [], ◌∷◌, ◌++◌, refl, sym, subst, arith}
use Rattle.connections.specs.Table.{State, ClientEvent, Happens}
use Rattle.connections.specs.Runs.{EventsLeadTo, HasRun}

pub stays : (old new : State) → new ≡ old → HasRun old new
stays old new e = record { events = []; run = e }

pub by_one : (old new : State) (e : ClientEvent) → Happens old e new → HasRun old new
by_one old new e h = record { events = e ∷ []; run = (old, refl, h) }

run_goes_on : (first middle : State) (before : List ClientEvent) → EventsLeadTo first before middle → (last : State) (events : List ClientEvent) → EventsLeadTo middle events last
    → EventsLeadTo first (events ++ before) last
run_goes_on first middle before b last [] h = subst (EventsLeadTo first before) (sym h) b
run_goes_on first middle before b last (e ∷ events) h = (h.0, run_goes_on first middle before b h.0 events h.1, h.2)

pub and_then : (first middle last : State) → HasRun first middle → HasRun middle last → HasRun first last
and_then first middle last b h = grind (arith, run_goes_on)
