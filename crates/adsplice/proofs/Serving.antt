-- Who has its turn, and what becomes of it then.
use Rattle.std.proofs.Common.{arith, ◌≡◌, ℕ, suc, ◌+◌, ◌<◌, true, false, List, [], ◌∷◌, ◌++◌, refl, sym, ap, ◌∙◌, subst, inl, inr}
use Rattle.std.proofs.lemmas.List.{append-nil, set-get_or}
use Rattle.std.specs.Prelude.{◌⊎◌, Bool, IfSome, Option, Some, None, Result, Ok, Err, OnOk, OnErr, filter, slice_set}
use Rattle.std.specs.declared.time.Instant.{Instant}
use Rattle.std.proofs.lemmas.List.Elements.{filter-append}
use Rattle.connections.specs.declared.arrivals.Arrival.{Arrival}
use Rattle.connections.specs.declared.conversation.Conversation.{Conversation}
use Rattle.connections.specs.Arrivals.{is_answered, is_elsewhere}
use Rattle.connections.specs.declared.turns.Turn.{Turn}
use Rattle.connections.specs.declared.turns.Turn.TheVariants.{Full}
use Rattle.connections.specs.Clients.{ClientAt, TurnComesTo}
use Rattle.connections.specs.Devices.{DeviceStand}
use Rattle.connections.specs.Limits.{most_held}
use Rattle.connections.specs.Lines.{LineState, LineEvent, joins, leaves, calls, after, next, place_of}
use Rattle.connections.specs.Table.{State, at, held_in}
use Rattle.connections.proofs.Calling.{leads_both}
use Rattle.adsplice.specs.Clients.{ClientsState}
use Rattle.adsplice.specs.Inner.Serving.{ComesLast, client_at, HasTurn, HadTurn, MayLeave, HasLeft, IsThere, is_over, AllLeave, LeavesLine, IsLastFor, IsNotedLast, IsWatched, IsClosed, IsSettled, OthersAreThere, OthersKeep, is_last_call, NextIsServed, AskStill, AllAskStill, LineIsServed}
use Rattle.adsplice.specs.Inner.Leaving.{not_served}
use Rattle.adsplice.proofs.Elsewhere.{may_none, may_both}

-- ---- a turn

module _ {X : Type 0} (incoming outgoing : X → DeviceStand) (room place : ℕ) where
  had_turn_at : (clients : List (Option (ClientAt X))) (client now : ClientAt X) (old new : State) (turn : Turn)
      → client_at clients place ≡ Some client → now.place ≡ client.place → now.is_ending ≡ client.is_ending → now.is_watched ≡ client.is_watched
      → (client.is_ending ≡ false → TurnComesTo incoming outgoing client.place client.device now.device old new turn)
      → (turn ≡ Full → most_held < held_in new.places + room) → (client.is_ending ≡ true → new ≡ old) → client.place ≡ place
      → HadTurn incoming outgoing room place (client_at clients place) clients (slice_set clients place (Some now)) old new (Some turn)
  had_turn_at clients client now old new turn is p e w comes full passed its =
      let same : now ≡ record client { device = now.device } = rw (← p, ← e, ← w) refl in
      let it : HasTurn incoming outgoing room place client clients (slice_set clients place (Some now)) old new turn = record {
        device = now.device;
        stands = ap (λ (x : ClientAt X). slice_set clients place (Some x)) same;
        comes = subst (λ (n : ℕ). client.is_ending ≡ false → TurnComesTo incoming outgoing n client.device now.device old new turn) its comes;
        full = full;
        passed = passed;
      } in
      subst (λ (c : Option (ClientAt X)). HadTurn incoming outgoing room place c clients (slice_set clients place (Some now)) old new (Some turn)) (sym is) (λ _. (turn, refl, it))

  had_nobody_at : (clients : List (Option (ClientAt X))) (slot : Option (ClientAt X)) (s : State) → client_at clients place ≡ slot → slot ≡ None
      → HadTurn incoming outgoing room place (client_at clients place) clients (slice_set clients place slot) s s None
  had_nobody_at clients slot s is e =
      let same : slice_set clients place slot ≡ clients = ap (λ (o : Option (ClientAt X)). slice_set clients place o) (sym is) ∙ set-get_or clients place None in
      subst (λ (c : Option (ClientAt X)). HadTurn incoming outgoing room place c clients (slice_set clients place slot) s s None) (sym (is ∙ e)) (same, refl, refl)

  -- ... at an index that is the place, of a list that is that of the clients
  pub had_turn : (index : ℕ) (clients list : List (Option (ClientAt X))) (client now : ClientAt X) (old new : State) (turn : Turn)
      → index ≡ place → list ≡ clients → client_at list index ≡ Some client → now.place ≡ client.place → now.is_ending ≡ client.is_ending → now.is_watched ≡ client.is_watched
      → (client.is_ending ≡ false → TurnComesTo incoming outgoing client.place client.device now.device old new turn)
      → (turn ≡ Full → most_held < held_in new.places + room) → (client.is_ending ≡ true → new ≡ old) → client.place ≡ index
      → HadTurn incoming outgoing room place (client_at clients place) clients (slice_set list index (Some now)) old new (Some turn)
  had_turn index clients list client now old new turn i l is p e w comes full passed its =
      subst (λ (n : ℕ). HadTurn incoming outgoing room place (client_at clients place) clients (slice_set list n (Some now)) old new (Some turn)) (sym i)
      (subst (λ (xs : List (Option (ClientAt X))). HadTurn incoming outgoing room place (client_at clients place) clients (slice_set xs place (Some now)) old new (Some turn)) (sym l)
      (had_turn_at clients client now old new turn (sym (ap (λ (n : ℕ). client_at clients n) i) ∙ (sym (ap (λ (xs : List (Option (ClientAt X))). client_at xs index) l) ∙ is)) p e w comes full passed (its ∙ i)))

  pub had_nobody : (index : ℕ) (clients list : List (Option (ClientAt X))) (slot : Option (ClientAt X)) (s : State) → index ≡ place → list ≡ clients → client_at list index ≡ slot → slot ≡ None
      → HadTurn incoming outgoing room place (client_at clients place) clients (slice_set list index slot) s s None
  had_nobody index clients list slot s i l is e =
      subst (λ (n : ℕ). HadTurn incoming outgoing room place (client_at clients place) clients (slice_set list n slot) s s None) (sym i)
      (subst (λ (xs : List (Option (ClientAt X))). HadTurn incoming outgoing room place (client_at clients place) clients (slice_set xs place slot) s s None) (sym l)
      (had_nobody_at clients slot s (sym (ap (λ (n : ℕ). client_at clients n) i) ∙ (sym (ap (λ (xs : List (Option (ClientAt X))). client_at xs index) l) ∙ is)) e))

-- what is so anyway is so of a turn, if there was one
pub if_any : {A : Type 0} (o : Option A) (P : Type 0) → P → IfSome o (λ x. P)
if_any None P p = tt
if_any (Some x) P p = p

-- ---- the lists of others

module _ (place : ℕ) where
  -- who left a list doesn't leave it again
  pub left_twice : (xs : List Arrival) → filter (is_elsewhere place) (filter (is_elsewhere place) xs) ≡ filter (is_elsewhere place) xs
  left_twice [] = refl
  left_twice (x ∷ xs) = grind (arith, left_twice xs)

  others_left : (before now : List Arrival) → now ≡ filter (is_elsewhere place) before → filter (is_elsewhere place) now ≡ filter (is_elsewhere place) before
  others_left before now e = ap (λ (xs : List Arrival). filter (is_elsewhere place) xs) e ∙ left_twice before

  none_of_itself : (until : Instant) → filter (is_elsewhere place) (record { place = place; until = until } ∷ []) ≡ []
  none_of_itself until = grind arith

  pub others_last : (until : Instant) (before now : List Arrival) → now ≡ filter (is_elsewhere place) before ++ record { place = place; until = until } ∷ [] → filter (is_elsewhere place) now ≡ filter (is_elsewhere place) before
  others_last until before now e =
      ap (λ (xs : List Arrival). filter (is_elsewhere place) xs) e
      ∙ (filter-append (is_elsewhere place) (filter (is_elsewhere place) before) (record { place = place; until = until } ∷ [])
      ∙ (ap (λ (ys : List Arrival). filter (is_elsewhere place) (filter (is_elsewhere place) before) ++ ys) (none_of_itself until)
      ∙ (append-nil (filter (is_elsewhere place) (filter (is_elsewhere place) before)) ∙ left_twice before)))

  -- who comes last there, or has left it if there is no memory
  pub others_noted : {A F : Type 0} (nanos : ℕ) (now : Instant) (before later : List Arrival) (result : Result A F) → OnOk result (IsLastFor nanos now place before later) → OnErr result (later ≡ filter (is_elsewhere place) before)
      → filter (is_elsewhere place) later ≡ filter (is_elsewhere place) before
  others_noted nanos now before later (Ok x) ok err = others_last ok.until before later ok.last
  others_noted nanos now before later (Err x) ok err = others_left before later err

  pub others_put : {A F : Type 0} (until : Instant) (before later : List Arrival) (result : Result A F) → OnOk result (later ≡ filter (is_elsewhere place) before ++ record { place = place; until = until } ∷ []) → OnErr result (later ≡ filter (is_elsewhere place) before)
      → filter (is_elsewhere place) later ≡ filter (is_elsewhere place) before
  others_put until before later (Ok x) ok err = others_last until before later ok
  others_put until before later (Err x) ok err = others_left before later err

  others_noted_last : (until : Instant) (before later : List Arrival) → IsNotedLast place until before later → filter (is_elsewhere place) later ≡ filter (is_elsewhere place) before
  others_noted_last until before later (inl e) = others_last until before later e
  others_noted_last until before later (inr e) = others_left before later e

  pub others_taken : (taken : Bool) (before later : List Arrival) → (taken ≡ true → (until : Instant) × IsNotedLast place until before later) → (taken ≡ false → later ≡ before) → filter (is_elsewhere place) later ≡ filter (is_elsewhere place) before
  others_taken true before later noted same = let it : (until : Instant) × IsNotedLast place until before later = noted refl in others_noted_last it.0 before later it.1
  others_taken false before later noted same = ap (λ (xs : List Arrival). filter (is_elsewhere place) xs) (same refl)

  -- others were settled before it was noted
  pub noted_since : (until : Instant) (before middle later : List Arrival) → filter (is_elsewhere place) middle ≡ filter (is_elsewhere place) before → IsNotedLast place until middle later → IsNotedLast place until before later
  noted_since until before middle later k (inl e) = inl (e ∙ ap (λ (xs : List Arrival). xs ++ record { place = place; until = until } ∷ []) k)
  noted_since until before middle later k (inr e) = inr (e ∙ k)

  last_since : {C : Type 0} (until : Instant) (before middle later : List Arrival) → filter (is_elsewhere place) middle ≡ filter (is_elsewhere place) before → (later ≡ filter (is_elsewhere place) middle ++ record { place = place; until = until } ∷ []) ⊎ C
      → (later ≡ filter (is_elsewhere place) before ++ record { place = place; until = until } ∷ []) ⊎ C
  last_since until before middle later k (inl e) = inl (e ∙ ap (λ (xs : List Arrival). xs ++ record { place = place; until = until } ∷ []) k)
  last_since until before middle later k (inr e) = inr e

  pub comes_last_since : {X : Type 0} (before middle later : List Arrival) (clients : List (Option (ClientAt X))) → filter (is_elsewhere place) middle ≡ filter (is_elsewhere place) before → ComesLast place middle later clients → ComesLast place before later clients
  comes_last_since before middle later clients k h = record { until = h.until; last = last_since h.until before middle later k h.last }

  was_answered_here : (before now : Option Conversation) → is_answered now ≡ true → (now ≡ before) ⊎ (now ≡ None) → is_answered before ≡ true
  was_answered_here before now a (inl e) = sym (ap (λ (it : Option Conversation). is_answered it) e) ∙ a
  was_answered_here before now a (inr e) = absurd (let both : false ≡ true = sym (ap (λ (it : Option Conversation). is_answered it) e) ∙ a in let never : ⊥ = cc in never)

  -- who is answered still was answered before
  pub was_answered : (old new : State) → MayLeave place old new → is_answered (at new place) ≡ true → is_answered (at old place) ≡ true
  was_answered old new m a = was_answered_here (at old place) (at new place) a m.here

module _ {X : Type 0} (place : ℕ) where
  keep_both : (a b c : ClientsState X) → OthersKeep place a b → OthersKeep place b c → OthersKeep place a c
  keep_both a b c f g = record {
    there = λ other n. g.there other n ∙ f.there other n;
    served = g.served ∙ f.served;
    ending = g.ending ∙ f.ending;
    heard = g.heard ∙ f.heard;
    took = g.took ∙ f.took;
    short = g.short ∙ f.short;
  }

  pub keep_served : (old new : ClientsState X) → new ≡ record old { served = new.served } → filter (is_elsewhere place) new.served ≡ filter (is_elsewhere place) old.served → OthersKeep place old new
  keep_served old new e h = record {
    there = λ other n. ap (λ (x : ClientsState X). client_at x.at other) e;
    served = h;
    ending = ap (λ (x : ClientsState X). filter (is_elsewhere place) x.ending) e;
    heard = ap (λ (x : ClientsState X). filter (is_elsewhere place) x.heard) e;
    took = ap (λ (x : ClientsState X). filter (is_elsewhere place) x.took) e;
    short = ap (λ (x : ClientsState X). filter (is_elsewhere place) x.short) e;
  }

  pub keep_ending : (old new : ClientsState X) → new ≡ record old { ending = new.ending } → filter (is_elsewhere place) new.ending ≡ filter (is_elsewhere place) old.ending → OthersKeep place old new
  keep_ending old new e h = record {
    there = λ other n. ap (λ (x : ClientsState X). client_at x.at other) e;
    served = ap (λ (x : ClientsState X). filter (is_elsewhere place) x.served) e;
    ending = h;
    heard = ap (λ (x : ClientsState X). filter (is_elsewhere place) x.heard) e;
    took = ap (λ (x : ClientsState X). filter (is_elsewhere place) x.took) e;
    short = ap (λ (x : ClientsState X). filter (is_elsewhere place) x.short) e;
  }

  pub keep_took : (old new : ClientsState X) → new ≡ record old { took = new.took } → filter (is_elsewhere place) new.took ≡ filter (is_elsewhere place) old.took → OthersKeep place old new
  keep_took old new e h = record {
    there = λ other n. ap (λ (x : ClientsState X). client_at x.at other) e;
    served = ap (λ (x : ClientsState X). filter (is_elsewhere place) x.served) e;
    ending = ap (λ (x : ClientsState X). filter (is_elsewhere place) x.ending) e;
    heard = ap (λ (x : ClientsState X). filter (is_elsewhere place) x.heard) e;
    took = h;
    short = ap (λ (x : ClientsState X). filter (is_elsewhere place) x.short) e;
  }

  pub keep_short : (old new : ClientsState X) → new ≡ record old { short = new.short } → filter (is_elsewhere place) new.short ≡ filter (is_elsewhere place) old.short → OthersKeep place old new
  keep_short old new e h = record {
    there = λ other n. ap (λ (x : ClientsState X). client_at x.at other) e;
    served = ap (λ (x : ClientsState X). filter (is_elsewhere place) x.served) e;
    ending = ap (λ (x : ClientsState X). filter (is_elsewhere place) x.ending) e;
    heard = ap (λ (x : ClientsState X). filter (is_elsewhere place) x.heard) e;
    took = ap (λ (x : ClientsState X). filter (is_elsewhere place) x.took) e;
    short = h;
  }

  pub keep_there : (old new : ClientsState X) → new ≡ record old { at = new.at } → OthersAreThere place old.at new.at → OthersKeep place old new
  keep_there old new e h = record {
    there = h;
    served = ap (λ (x : ClientsState X). filter (is_elsewhere place) x.served) e;
    ending = ap (λ (x : ClientsState X). filter (is_elsewhere place) x.ending) e;
    heard = ap (λ (x : ClientsState X). filter (is_elsewhere place) x.heard) e;
    took = ap (λ (x : ClientsState X). filter (is_elsewhere place) x.took) e;
    short = ap (λ (x : ClientsState X). filter (is_elsewhere place) x.short) e;
  }

  keep_not_served : (old new : ClientsState X) → new ≡ not_served place old → OthersKeep place old new
  keep_not_served old new e = record {
    there = λ other n. ap (λ (x : ClientsState X). client_at x.at other) e;
    served = others_left place old.served new.served (ap (λ (x : ClientsState X). x.served) e);
    ending = ap (λ (x : ClientsState X). filter (is_elsewhere place) x.ending) e;
    heard = others_left place old.heard new.heard (ap (λ (x : ClientsState X). x.heard) e);
    took = others_left place old.took new.took (ap (λ (x : ClientsState X). x.took) e);
    short = others_left place old.short new.short (ap (λ (x : ClientsState X). x.short) e);
  }

  keep_closed : (old new : ClientsState X) (s t : State) → IsClosed place old new s t → OthersKeep place old new
  keep_closed old new s t h = record {
    there = h.others;
    served = others_left place old.served new.served (ap (λ (x : ClientsState X). x.served) h.lists);
    ending = others_left place old.ending new.ending (ap (λ (x : ClientsState X). x.ending) h.lists);
    heard = others_left place old.heard new.heard (ap (λ (x : ClientsState X). x.heard) h.lists);
    took = others_left place old.took new.took (ap (λ (x : ClientsState X). x.took) h.lists);
    short = others_left place old.short new.short (ap (λ (x : ClientsState X). x.short) h.lists);
  }

  -- it isn't served any more, its output is ended, and its end is awaited
  pub keep_ended : (old stopped ended new : ClientsState X) → stopped ≡ not_served place old → ended ≡ record stopped { at = ended.at } → OthersAreThere place stopped.at ended.at
      → new ≡ record ended { ending = new.ending } → filter (is_elsewhere place) new.ending ≡ filter (is_elsewhere place) ended.ending → OthersKeep place old new
  keep_ended old stopped ended new e f h g k =
      keep_both old stopped new (keep_not_served old stopped e) (keep_both stopped ended new (keep_there stopped ended f h) (keep_ending ended new g k))

-- ---- what becomes of a client after its turn

module _ (place : ℕ) where
  all_leave_both : (before later : List LineEvent) → AllLeave place before → AllLeave place later → AllLeave place (later ++ before)
  all_leave_both before [] b l = b
  all_leave_both before (joins k channel ∷ later) b l = l
  all_leave_both before (calls ∷ later) b l = l
  all_leave_both before (leaves k ∷ later) b l = (l.0, all_leave_both before later b l.1)

  leaves_none : (old new : LineState) → new ≡ old → LeavesLine place old new
  leaves_none old new e = record { events = []; leads = e; all = tt }

  leaves_once : (old new : LineState) → new ≡ after (leaves place) old → LeavesLine place old new
  leaves_once old new e = record { events = leaves place ∷ []; leads = e; all = (refl, tt) }

  leaves_both : (a b c : LineState) → LeavesLine place a b → LeavesLine place b c → LeavesLine place a c
  leaves_both a b c f g =
      record { events = g.events ++ f.events; leads = leads_both a b c f.events g.events f.leads g.leads; all = all_leave_both f.events g.events f.all g.all }

  none_there : (old new : State) → at old place ≡ None → (at new place ≡ at old place) ⊎ (at new place ≡ None) → at new place ≡ None
  none_there old new h (inl e) = e ∙ h
  none_there old new h (inr e) = e

module _ {X : Type 0} (place : ℕ) where
  there_same : (a b : Option (ClientAt X)) → b ≡ a → IsThere a b
  there_same None b e = e
  there_same (Some client) b e = (client, e, refl, refl, refl, λ w. w)

  there_both : (a b c : Option (ClientAt X)) → IsThere a b → IsThere b c → IsThere a c
  there_both None b c e f = subst (λ (o : Option (ClientAt X)). IsThere o c) e f
  there_both (Some client) b c e f =
      let g : IsThere (Some e.0) c = subst (λ (o : Option (ClientAt X)). IsThere o c) e.1 f in
      (g.0, g.1, g.2 ∙ e.2, g.3 ∙ e.3, g.4 ∙ e.4, λ w. g.5 (e.5 w))

  pub over_there : (b c : Option (ClientAt X)) → is_over b ≡ true → IsThere b c → is_over c ≡ true
  over_there None c h e = ap (λ (o : Option (ClientAt X)). is_over o) e
  over_there (Some client) c h e = ap (λ (o : Option (ClientAt X)). is_over o) e.1 ∙ (e.4 ∙ h)

  -- who is there later is who was there
  left_if_there : (a b : Option (ClientAt X)) (s : State) → IsThere a b → HasLeft b place s → HasLeft a place s
  left_if_there None b s e h = tt
  left_if_there (Some client) b s e h =
      let g : HasLeft (Some e.0) place s = subst (λ (o : Option (ClientAt X)). HasLeft o place s) e.1 h in
      λ its. g (e.3 ∙ its)

  left_later : (a : Option (ClientAt X)) (old new : State) → MayLeave place old new → HasLeft a place old → HasLeft a place new
  left_later None old new m h = tt
  left_later (Some client) old new m h = λ its. none_there place old new (h its) m.here

  here_both : (a b c : Option (ClientAt X)) (s t u : State) → MayLeave place t u → (IsThere a b × (t ≡ s)) ⊎ ((is_over b ≡ true) × HasLeft a place t) → (IsThere b c × (u ≡ t)) ⊎ ((is_over c ≡ true) × HasLeft b place u)
      → (IsThere a c × (u ≡ s)) ⊎ ((is_over c ≡ true) × HasLeft a place u)
  here_both a b c s t u m (inl f) (inl g) = inl (there_both a b c f.0 g.0, g.1 ∙ f.1)
  here_both a b c s t u m (inl f) (inr g) = inr (g.0, left_if_there a b u f.0 g.1)
  here_both a b c s t u m (inr f) (inl g) = inr (over_there b c f.0 g.0, left_later a t u m f.1)
  here_both a b c s t u m (inr f) (inr g) = inr (g.0, left_later a t u m f.1)

  pub settled_both : (a b c : ClientsState X) (s t u : State) → IsSettled place a b s t → IsSettled place b c t u → IsSettled place a c s u
  settled_both a b c s t u f g = record {
    line = leaves_both place a.line b.line c.line f.line g.line;
    others = keep_both place a b c f.others g.others;
    leaves = may_both place s t u f.leaves g.leaves;
    here = here_both (client_at a.at place) (client_at b.at place) (client_at c.at place) s t u g.leaves f.here g.here;
  }

  pub settled_none : (old new : ClientsState X) (s t : State) → OthersKeep place old new → new.at ≡ old.at → new.line ≡ old.line → t ≡ s → IsSettled place old new s t
  settled_none old new s t k e l f = record {
    line = leaves_none place old.line new.line l;
    others = k;
    leaves = may_none place s t f;
    here = inl (there_same (client_at old.at place) (client_at new.at place) (ap (λ (x : List (Option (ClientAt X))). client_at x place) e), f);
  }

  pub settled_watched : (old new : ClientsState X) (s : State) → IsWatched place old new → IsSettled place old new s s
  settled_watched old new s h =
      record { line = leaves_none place old.line new.line (ap (λ (x : ClientsState X). x.line) h.rest); others = keep_there place old new h.rest h.others; leaves = may_none place s s refl; here = inl (h.here, refl) }

  pub settled_closed : (old new : ClientsState X) (s t : State) → IsClosed place old new s t → IsSettled place old new s t
  settled_closed old new s t h = record {
    line = leaves_once place old.line new.line (ap (λ (x : ClientsState X). x.line) h.lists);
    others = keep_closed place old new s t h;
    leaves = h.leaves;
    here = inr (ap (λ (x : Option (ClientAt X)). is_over x) h.gone, h.left);
  }

  -- the system can't tell of it, and it is closed
  pub settled_unwatched : (old middle new : ClientsState X) (s t : State) → IsWatched place old middle → IsClosed place middle new s t → IsSettled place old new s t
  settled_unwatched old middle new s t w h = settled_both old middle new s s t (settled_watched old middle s w) (settled_closed middle new s t h)

  -- lists of others are changed, and it is closed
  pub settled_noted : (old middle new : ClientsState X) (s t : State) → OthersKeep place old middle → middle.at ≡ old.at → middle.line ≡ old.line → IsClosed place middle new s t → IsSettled place old new s t
  settled_noted old middle new s t k e l h = settled_both old middle new s s t (settled_none old middle s s k e l refl) (settled_closed middle new s t h)

  -- it has left, and its end is awaited; then it is settled
  pub settled_ended : (old middle new : ClientsState X) (s t u : State) → OthersKeep place old middle → middle.line ≡ after (leaves place) old.line → MayLeave place s t → HasLeft (client_at old.at place) place t → is_over (client_at middle.at place) ≡ true
      → IsSettled place middle new t u → IsSettled place old new s u
  settled_ended old middle new s t u k l m h o g =
      settled_both old middle new s t u (record { line = leaves_once place old.line middle.line l; others = k; leaves = m; here = inr (o, h) }) g

  -- it has left, and is closed
  pub settled_left : (old middle new : ClientsState X) (s t u : State) → OthersKeep place old middle → middle.line ≡ after (leaves place) old.line → MayLeave place s t → HasLeft (client_at old.at place) place t → IsClosed place middle new t u → IsSettled place old new s u
  settled_left old middle new s t u k l m h g = record {
    others = keep_both place old middle new k (keep_closed place middle new t u g);
    line = leaves_both place old.line middle.line new.line (leaves_once place old.line middle.line l) (leaves_once place middle.line new.line (ap (λ (x : ClientsState X). x.line) g.lists));
    leaves = may_both place s t u m g.leaves;
    here = inr (ap (λ (x : Option (ClientAt X)). is_over x) g.gone, left_later (client_at old.at place) t u g.leaves h);
  }
  -- ---- what follows its turn

-- ---- calls

module _ {X : Type 0} (incoming outgoing : X → DeviceStand) (room : ℕ) where
  pub calls_begin : (clients : ClientsState X) (s : State) → AllAskStill incoming outgoing room clients clients s s
  unfolding AskStill
  calls_begin clients s = record { count = 0; are = (refl, refl) }

  pub calls_more : (size : ℕ) (a b c : ClientsState X) (s t u : State) → size ≡ room → AllAskStill incoming outgoing room a b s t → NextIsServed incoming outgoing size b c t u → is_last_call (place_of (next b.line)) u ≡ false
      → AllAskStill incoming outgoing room a c s u
  unfolding AskStill
  calls_more size a b c s t u e f g h = record { count = suc f.count; are = (b, t, f.are, subst (λ (n : ℕ). NextIsServed incoming outgoing n b c t u) e g, h) }

  pub calls_end : (size : ℕ) (a b c : ClientsState X) (s t u : State) → size ≡ room → AllAskStill incoming outgoing room a b s t → NextIsServed incoming outgoing size b c t u → LineIsServed incoming outgoing room a c s u
  calls_end size a b c s t u e f g = record { before = b; state = t; ask = f; last = inr (subst (λ (n : ℕ). NextIsServed incoming outgoing n b c t u) e g) }

  pub calls_all : (a b : ClientsState X) (s t : State) → AllAskStill incoming outgoing room a b s t → LineIsServed incoming outgoing room a b s t
  calls_all a b s t f = record { before = b; state = t; ask = f; last = inl (refl, refl) }
