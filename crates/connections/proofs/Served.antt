-- Each connection is served by itself, whatever the others do.
use Rattle.std.proofs.Common.{◌≡◌, ℕ, ◌==◌, Bool, true, false, cond, List, [], ◌∷◌, ◌++◌, refl, sym, ap, subst, ◌∙◌, inl, inr, ◌⊎◌, arith, append_assoc, eq-eqb}
use Rattle.std.specs.Prelude.{Option, Some, None, ◌≢◌}
use Rattle.std.proofs.lemmas.Bool.{eqb-false}
use Rattle.std.proofs.lemmas.List.{append-nil}
use Rattle.http_messages.specs.Requests.{IsUnfinished}
use Rattle.http_messages.proofs.Fronts.{nothing_yet}
use Rattle.http_edge.specs.Served.{IsServed}
use Rattle.connections.specs.declared.conversation.Conversation.{Conversation}
use Rattle.connections.specs.declared.conversation.Conversation.TheVariants.{Asking, Answering}
use Rattle.connections.specs.Conversing.{Goes}
use Rattle.connections.specs.Table.{State, at, left_of, with_left, ClientEvent, arrival, request_bytes, reply_bytes, departure, PutsAtPlace, ConversationGoesOn, Happens}
use Rattle.connections.specs.Runs.{visits, said, was_sent, Service, InTurn, AreOf, IsAsking, HasReply, ConversationStandsAt, EventsLeadTo, AtEachFront, AreServed, IsServedRun}
use Rattle.connections.proofs.Held.{sent_nothing}

-- these services were served, and each connection stands as they say
record Stand (first : State) (events : List ClientEvent) (last : State) (services : List Service) : Type 0 where
  turns : InTurn first.edge services last.edge
  pieces : AreOf events services
  each : AreServed services events last

-- ---- places

same : (place : ℕ) → (place == place) ≡ true
same place = eq-eqb place place refl

other_of : (k place : ℕ) → (k == place) ≡ false → place ≢ k
other_of k place e h = eqb-false k place e (sym h)

chosen : {A : Type 0} (b : Bool) (x y : A) → b ≡ true → cond b x y ≡ x
chosen b x y e = ap (λ c. cond c x y) e

left : {A : Type 0} (b : Bool) (x y : A) → b ≡ false → cond b x y ≡ y
left b x y e = ap (λ c. cond c x y) e

by_place : (P : ℕ → Type 0) (k : ℕ) → P k → ((place : ℕ) → (k == place) ≡ false → P place) → (place : ℕ) → P place
by_place P k here there place = grind arith

-- ---- what doesn't concern a place

more_services : (place : ℕ) (events : List ClientEvent) (s : Service) (services : List Service) (c : Option Conversation) → ConversationStandsAt place events services c
    → ConversationStandsAt place events (s ∷ services) c
more_services place events s services c h = grind arith

-- where an event leaves what was said, taken and visited
carried : (place : ℕ) (now before : List ClientEvent) (services : List Service) (c : Option Conversation) → visits place now ≡ visits place before
    → said place now ≡ said place before → was_sent place now ≡ was_sent place before → ConversationStandsAt place before services c → ConversationStandsAt place now services c
carried place now before services c v s t h = grind arith

moved : (place : ℕ) (events : List ClientEvent) (services : List Service) (old new : Option Conversation) → new ≡ old → ConversationStandsAt place events services old
    → ConversationStandsAt place events services new
moved place events services old new e h = subst (ConversationStandsAt place events services) (sym e) h

-- ---- a client comes

on_arrival : (first middle last : State) (k : ℕ) (before : List ClientEvent) (services : List Service) → Stand first before middle services → Happens middle (arrival k) last
    → Stand first (arrival k ∷ before) last services
on_arrival first middle last k before services stand h = grind (arith, by_place, moved, chosen, same, nothing_yet, other_of, carried, left)

-- ---- a client goes

on_departure : (first middle last : State) (k : ℕ) (before : List ClientEvent) (services : List Service) → Stand first before middle services → Happens middle (departure k) last
    → Stand first (departure k ∷ before) last services
on_departure first middle last k before services stand h = grind arith

-- ---- a client is told

sent_here : (k : ℕ) (bytes : List ℕ) (before : List ClientEvent) → was_sent k (reply_bytes k bytes ∷ before) ≡ was_sent k before ++ bytes
sent_here k bytes before = chosen (k == k) (was_sent k before ++ bytes) (was_sent k before) (same k)

told_here : (k : ℕ) (bytes rest : List ℕ) (before : List ClientEvent) (services : List Service) (c : Option Conversation) → left_of c ≡ bytes ++ rest → ConversationStandsAt k before services c
    → ConversationStandsAt k (reply_bytes k bytes ∷ before) services (with_left rest c)
told_here k bytes rest before services None e h = tt
told_here k bytes rest before services (Some (Asking said_so_far pieces)) e h = record {
  all = h.all;
  unfinished = h.unfinished;
  unsent = sent_here k bytes before ∙ ap (λ l. l ++ bytes) h.unsent ∙ sent_nothing bytes rest e;
}
told_here k bytes rest before services (Some (Answering owed status)) e h = record {
  service = h.service;
  one = h.one;
  place_is = h.place_is;
  visit_is = h.visit_is;
  more = h.more;
  said_is = h.said_is;
  status_is = h.status_is;
  text_is = h.text_is ∙ ap (λ l. was_sent k before ++ l) e ∙ sym (append_assoc (was_sent k before) bytes rest) ∙ ap (λ l. l ++ rest) (sym (sent_here k bytes before));
}

on_reply_bytes : (first middle last : State) (k : ℕ) (bytes : List ℕ) (before : List ClientEvent) (services : List Service) → Stand first before middle services
    → Happens middle (reply_bytes k bytes) last → Stand first (reply_bytes k bytes ∷ before) last services
on_reply_bytes first middle last k bytes before services stand h = grind (arith, by_place, moved, told_here, other_of, carried, left)

-- ---- a client gives

said_here : (k : ℕ) (piece : List ℕ) (before : List ClientEvent) → said k (request_bytes k piece ∷ before) ≡ said k before ++ piece
said_here k piece before = chosen (k == k) (said k before ++ piece) (said k before) (same k)

-- another place
given_there : (k : ℕ) (piece : List ℕ) (before : List ClientEvent) (services : List Service) (middle last : State) (it : Option Conversation) → PutsAtPlace middle last k it
    → ((place : ℕ) → ConversationStandsAt place before services (at middle place)) → (place : ℕ) → (k == place) ≡ false
    → ConversationStandsAt place (request_bytes k piece ∷ before) services (at last place)
given_there k piece before services middle last it puts each place e = grind arith

-- nothing is served by it
unserved : (first middle last : State) (k : ℕ) (piece : List ℕ) (before : List ClientEvent) (services : List Service) (it : Option Conversation) (stand : Stand first before middle services)
    → PutsAtPlace middle last k it → last.edge ≡ middle.edge → ConversationStandsAt k (request_bytes k piece ∷ before) services it
    → Stand first (request_bytes k piece ∷ before) last services
unserved first middle last k piece before services it stand puts edge here = grind arith

-- it makes the request whole
abbrev service_of : (k : ℕ) (before : List ClientEvent) (bytes rest : List ℕ) (status : ℕ) → Service
service_of k before bytes rest status = record { place = k; visit = visits k before; bytes = bytes; text = rest; status = status }

newly : (first middle last : State) (k : ℕ) (piece : List ℕ) (before : List ClientEvent) (services : List Service) (bytes rest : List ℕ) (status : ℕ) (stand : Stand first before middle services)
    → IsAsking k before bytes → IsServed (bytes ++ piece) middle.edge last.edge rest status → PutsAtPlace middle last k (Some (Answering rest status))
    → Stand first (request_bytes k piece ∷ before) last (service_of k before (bytes ++ piece) rest status ∷ services)
newly first middle last k piece before services bytes rest status stand asks served puts =
    let service : Service = service_of k before (bytes ++ piece) rest status in
    let events = request_bytes k piece ∷ before in record {
      turns = (middle.edge, stand.turns, served);
      pieces =
          inr (
            record { place = refl; visit = refl; bytes = ap (λ l. l ++ piece) asks.all; unfinished = subst IsUnfinished asks.all asks.unfinished },
            stand.pieces,
          );
      each =
          by_place (λ place. ConversationStandsAt place events (service ∷ services) (at last place)) k
          (moved k events (service ∷ services) (Some (Answering rest status)) (at last k) puts.here
          (record {
            service = service;
            one = inl refl;
            place_is = refl;
            visit_is = refl;
            more = [];
            said_is = said_here k piece before ∙ ap (λ l. l ++ piece) (sym asks.all) ∙ sym (append-nil (bytes ++ piece));
            status_is = refl;
            text_is = ap (λ l. l ++ rest) (sym asks.unsent);
          }))
          (λ place e. more_services place events service services (at last place)
          (given_there k piece before services middle last (Some (Answering rest status)) puts stand.each place e));
    }

-- the same services, or one more
abbrev Next : State → List ClientEvent → State → List Service → Type 0
Next first events last services = Stand first events last services ⊎ ((s : Service) × Stand first events last (s ∷ services))

to_asking : (first middle last : State) (k : ℕ) (piece : List ℕ) (before : List ClientEvent) (services : List Service) (bytes : List ℕ) (pieces : ℕ) (stand : Stand first before middle services)
    → IsAsking k before bytes → (after : Conversation) → Goes (Asking bytes pieces) piece middle.edge last.edge after → PutsAtPlace middle last k (Some after)
    → Next first (request_bytes k piece ∷ before) last services
to_asking first middle last k piece before services bytes pieces stand asks (Asking more count) goes puts = inl (
    unserved first middle last k piece before services (Some (Asking more count)) stand puts goes.4 (record {
      all = goes.0 ∙ ap (λ l. l ++ piece) asks.all ∙ sym (said_here k piece before);
      unfinished = subst IsUnfinished (sym goes.0) goes.1;
      unsent = asks.unsent;
    })
    )
to_asking first middle last k piece before services bytes pieces stand asks (Answering rest status) goes puts =
    inr (service_of k before (bytes ++ piece) rest status, newly first middle last k piece before services bytes rest status stand asks goes puts)

to_answering : (k : ℕ) (piece : List ℕ) (before : List ClientEvent) (services : List Service) (rest : List ℕ) (status : ℕ) → HasReply k before services rest status
    → HasReply k (request_bytes k piece ∷ before) services rest status
to_answering k piece before services rest status h = record {
  service = h.service;
  one = h.one;
  place_is = h.place_is;
  visit_is = h.visit_is;
  more = h.more ++ piece;
  said_is = said_here k piece before ∙ ap (λ l. l ++ piece) h.said_is ∙ append_assoc h.service.bytes h.more piece;
  status_is = h.status_is;
  text_is = h.text_is;
}

on_request_bytes_at : (first middle last : State) (k : ℕ) (piece : List ℕ) (before : List ClientEvent) (services : List Service) (c : Option Conversation) (stand : Stand first before middle services)
    → ConversationStandsAt k before services c → ConversationGoesOn c middle k piece last → Next first (request_bytes k piece ∷ before) last services
on_request_bytes_at first middle last k piece before services None stand here h = inl (unserved first middle last k piece before services None stand h.0 h.1 tt)
on_request_bytes_at first middle last k piece before services (Some (Asking bytes pieces)) stand here h =
    to_asking first middle last k piece before services bytes pieces stand here h.0 h.1 h.2
on_request_bytes_at first middle last k piece before services (Some (Answering rest status)) stand here h = inl (
    unserved first middle last k piece before services (Some (Answering rest status)) stand
    (subst (λ (c : Conversation). PutsAtPlace middle last k (Some c)) h.1.0 h.2) h.1.1
    (to_answering k piece before services rest status here)
    )

-- ---- all

on_event : (first middle last : State) (e : ClientEvent) (before : List ClientEvent) (services : List Service) → Stand first before middle services → Happens middle e last
    → Next first (e ∷ before) last services
on_event first middle last (arrival k) before services stand h = inl (on_arrival first middle last k before services stand h)
on_event first middle last (request_bytes k piece) before services stand h =
    on_request_bytes_at first middle last k piece before services (at middle k) stand (stand.each k) h
on_event first middle last (reply_bytes k bytes) before services stand h = inl (on_reply_bytes first middle last k bytes before services stand h)
on_event first middle last (departure k) before services stand h = inl (on_departure first middle last k before services stand h)

-- one service more says of each front what the others said
more_at_fronts : (s : Service) (services : List Service) (first : State) (events : List ClientEvent) (last : State) (run : EventsLeadTo first events last)
    → AtEachFront (AreServed services) first events last run → AtEachFront (AreServed (s ∷ services)) first events last run
more_at_fronts s services first [] last run each = λ place. more_services place [] s services (at last place) (each place)
more_at_fronts s services first (e ∷ before) last run each =
    (more_at_fronts s services first before run.0 run.1 each.0, λ place. more_services place (e ∷ before) s services (at last place) (each.1 place))

record Throughout (first : State) (events : List ClientEvent) (last : State) (run : EventsLeadTo first events last) : Type 0 where
  services : List Service
  stand : Stand first events last services
  fronts : AtEachFront (AreServed services) first events last run

one_more : (first : State) (e : ClientEvent) (before : List ClientEvent) (last : State) (run : EventsLeadTo first (e ∷ before) last) (those : Throughout first before run.0 run.1)
    → Next first (e ∷ before) last those.services → Throughout first (e ∷ before) last run
one_more first e before last run those (inl stand) = record { services = those.services; stand = stand; fronts = (those.fronts, stand.each) }
one_more first e before last run those (inr (s, stand)) = record {
  services = s ∷ those.services;
  stand = stand;
  fronts = (more_at_fronts s those.services first before run.0 run.1 those.fronts, stand.each);
}

from_nobody : (first last : State) → ((place : ℕ) → at first place ≡ None) → last ≡ first → (place : ℕ) → ConversationStandsAt place [] [] (at last place)
from_nobody first last vacant same_state place = moved place [] [] None (at last place) (ap (λ s. at s place) same_state ∙ vacant place) tt

throughout : (first last : State) (events : List ClientEvent) → ((place : ℕ) → at first place ≡ None) → (run : EventsLeadTo first events last) → Throughout first events last run
throughout first last [] vacant run =
    let each = from_nobody first last vacant run in
    record { services = []; stand = record { turns = ap (λ (s : State). s.edge) run; pieces = refl; each = each }; fronts = each }
throughout first last (e ∷ before) vacant run =
    let those = throughout first run.0 before vacant run.1 in
    one_more first e before last run those (on_event first run.0 last e before those.services those.stand run.2)

pub served : (first last : State) (events : List ClientEvent) → ((place : ℕ) → at first place ≡ None) → (run : EventsLeadTo first events last) → IsServedRun first events last run
served first last events vacant run =
    let it = throughout first last events vacant run in
    record { services = it.services; turns = it.stand.turns; pieces = it.stand.pieces; each = it.fronts }
