-- A client that was answered and has gone is among those that were served.
use Rattle.std.proofs.Common.{◌≡◌, ℕ, Bool, true, false, List, [], ◌∷◌, ◌++◌, refl, sym, ap, subst, ◌∙◌, inl, inr, true≢false, arith}
use Rattle.std.specs.Prelude.{Option, Some, None, ◌==◌, not, filter, codes, get_or}
use Rattle.http_messages.specs.declared.message.Request.{Request}
use Rattle.http_messages.specs.declared.message.Reply.{Reply}
use Rattle.http_messages.specs.declared.receiving.Asked.{Asked}
use Rattle.http_messages.specs.declared.receiving.Asked.TheVariants as asked
use Rattle.http_messages.specs.Requests.{Asks, IsRefusedFor}
use Rattle.http_messages.specs.Replies.{bare, sends_body, text_sent}
use Rattle.http_messages.proofs.Whole.{asked_one}
use Rattle.http_edge.specs.Isolation.{Exchange, is_on, was_served, replies_on, is_served_on, asked_of, answered_of, IsIsolatedIn}
use Rattle.connections.specs.declared.conversation.Conversation.{Conversation}
use Rattle.connections.specs.declared.conversation.Conversation.TheVariants.{Asking, Answering}
use Rattle.connections.specs.Isolation.{IsExchange, IsRefusal, AreExchanges, IsIsolatedRun}
use Rattle.connections.specs.Runs.{Service, AreOf, IsOneOf, ConversationStandsAt, EventsLeadTo, was_sent}
use Rattle.connections.specs.Table.{State, at, left_of, ClientEvent, arrival, request_bytes, reply_bytes, departure}
use Rattle.served_examples.specs.Answers.{make, line}
use Rattle.served_examples.proofs.OnLiterals.{on_literals}
use Rattle.served_examples.specs.Gone.{told, ChannelsAreMadeOnce}

is_some_list : {A : Type 0} → List A → Bool
is_some_list [] = false
is_some_list (x ∷ more) = true

not_nothing : {A : Type 0} (x : A) (more : List A) → x ∷ more ≡ [] → ⊥
unfolding is_some_list
not_nothing x more e = true≢false (ap is_some_list e)

-- ---- who was sent something was served

record WasServed (place : ℕ) (services : List Service) (text : List ℕ) : Type 0 where
  service : Service
  one : IsOneOf service services
  place_is : service.place ≡ place
  text_is : service.text ≡ text

served_here : (place : ℕ) (events : List ClientEvent) (services : List Service) (c : Option Conversation) (text : List ℕ) → ([] ≡ text → ⊥) → was_sent place events ≡ []
    → left_of c ≡ text → ConversationStandsAt place events services c → WasServed place services text
served_here place events services None text some unsent left stands = absurd (some left)
served_here place events services (Some (Asking bytes pieces)) text some unsent left stands = absurd (some left)
served_here place events services (Some (Answering rest status)) text some unsent left stands = record {
  service = stands.service;
  one = stands.one;
  place_is = stands.place_is;
  text_is = stands.text_is ∙ ap (λ l. l ++ rest) unsent ∙ left;
}

-- ---- the services of two clients that said the same

record Of (ask : List ℕ) (text : List ℕ) (s : Service) : Type 0 where
  bytes_is : s.bytes ≡ ask
  text_is : s.text ≡ text

abbrev both_asked : List ℕ → List ℕ → List ℕ → List ClientEvent
both_asked ask first second =
    reply_bytes 1 second ∷ request_bytes 1 ask ∷ arrival 1 ∷ departure 0 ∷ reply_bytes 0 first ∷ request_bytes 0 ask ∷ arrival 0 ∷ []

record Two (ask first second : List ℕ) (services : List Service) : Type 0 where
  newer : Service
  older : Service
  they : services ≡ newer ∷ older ∷ []
  newer_is : Of ask second newer
  older_is : Of ask first older

apart : (s x : Service) → s.place ≡ 1 → s ≡ x → x.place ≡ 0 → ⊥
apart s x one e zero = let it : s.place ≡ x.place = ap (λ (t : Service). t.place) e in omega (arith, one, it, zero)

apart_too : (s x : Service) → s.place ≡ 0 → s ≡ x → x.place ≡ 1 → ⊥
apart_too s x zero e one = let it : s.place ≡ x.place = ap (λ (t : Service). t.place) e in omega (arith, zero, it, one)

text_of_newer : (x y : Service) (text : List ℕ) → y.place ≡ 0 → WasServed 1 (x ∷ y ∷ []) text → x.text ≡ text
text_of_newer x y text zero w = go w.one where
  go : IsOneOf w.service (x ∷ y ∷ []) → x.text ≡ text
  go (inl e) = ap (λ (t : Service). t.text) (sym e) ∙ w.text_is
  go (inr (inl e)) = absurd (apart w.service y w.place_is e zero)
  go (inr (inr none)) = absurd none

text_of_older : (x y : Service) (text : List ℕ) → x.place ≡ 1 → WasServed 0 (x ∷ y ∷ []) text → y.text ≡ text
text_of_older x y text one w = go w.one where
  go : IsOneOf w.service (x ∷ y ∷ []) → y.text ≡ text
  go (inl e) = absurd (apart_too w.service x w.place_is e one)
  go (inr (inl e)) = ap (λ (t : Service). t.text) (sym e) ∙ w.text_is
  go (inr (inr none)) = absurd none

one_alone : (s : Service) (x : Service) → IsOneOf s (x ∷ []) → s ≡ x
one_alone s x (inl e) = e
one_alone s x (inr none) = absurd none

two : (ask first second first_text second_text : List ℕ) (services : List Service) → AreOf (both_asked ask first second) services → WasServed 0 services first_text
    → WasServed 1 services second_text → Two ask first_text second_text services
two ask first second ta tb [] h a b = absurd a.one
two ask first second ta tb (x ∷ []) h a b =
    absurd (apart b.service a.service b.place_is (one_alone b.service x b.one ∙ sym (one_alone a.service x a.one)) a.place_is)
two ask first second ta tb (x ∷ y ∷ []) (inl (inl h)) a b = absurd (not_nothing x (y ∷ []) h)
two ask first second ta tb (x ∷ y ∷ []) (inl (inr h)) a b = absurd (not_nothing y [] h.1)
two ask first second ta tb (x ∷ y ∷ []) (inr (newly, inl h)) a b = absurd (not_nothing y [] h)
two ask first second ta tb (x ∷ y ∷ []) (inr (newly, inr h)) a b = record {
  newer = x;
  older = y;
  they = refl;
  newer_is = record { bytes_is = newly.bytes; text_is = text_of_newer x y tb h.0.place b };
  older_is = record { bytes_is = h.0.bytes; text_is = text_of_older x y ta newly.place a };
}
two ask first second ta tb (x ∷ y ∷ z ∷ more) (inl (inl h)) a b = absurd (not_nothing x (y ∷ z ∷ more) h)
two ask first second ta tb (x ∷ y ∷ z ∷ more) (inl (inr h)) a b = absurd (not_nothing y (z ∷ more) h.1)
two ask first second ta tb (x ∷ y ∷ z ∷ more) (inr (newly, inl h)) a b = absurd (not_nothing y (z ∷ more) h)
two ask first second ta tb (x ∷ y ∷ z ∷ more) (inr (newly, inr h)) a b = absurd (not_nothing z more h.1)

-- ---- what they asked and were answered

is_request : Asked → Bool
is_request (asked.Request request) = true
is_request (asked.Refused refusal) = false

request_in : Request → Asked → Request
request_in other (asked.Request request) = request
request_in other (asked.Refused refusal) = other

module _ (make : Request) (ask : List ℕ) (asks : Asks ask make) where
  no_refusal : (text : List ℕ) (s : Service) → Of ask text s → IsRefusal s → ⊥
  unfolding is_request
  no_refusal text s of refusal =
      true≢false (ap is_request (asked_one ask (asked.Request make) (asked.Refused refusal.refusal) asks (subst (λ b. IsRefusedFor b refusal.refusal) of.bytes_is refusal.refused)))

  same_request : (text : List ℕ) (s : Service) (e : Exchange) → Of ask text s → IsExchange s e → e.request ≡ make
  unfolding request_in
  same_request text s e of exchange =
      sym (ap (request_in make) (asked_one ask (asked.Request make) (asked.Request e.request) asks (subst (λ b. Asks b e.request) of.bytes_is exchange.asks)))

  reply_text : (text : List ℕ) (s : Service) (e : Exchange) → Of ask text s → IsExchange s e → text_sent (sends_body make.method) e.reply ≡ text
  reply_text text s e of exchange =
      ap (λ (r : Request). text_sent (sends_body r.method) e.reply) (sym (same_request text s e of exchange)) ∙ sym exchange.text_is ∙ of.text_is

  record Pair (first second : List ℕ) (exchanges : List Exchange) : Type 0 where
    newer : Exchange
    older : Exchange
    they : exchanges ≡ newer ∷ older ∷ []
    newer_asks : newer.request ≡ make
    older_asks : older.request ≡ make
    newer_text : text_sent (sends_body make.method) newer.reply ≡ second
    older_text : text_sent (sends_body make.method) older.reply ≡ first

  pair : (first second : List ℕ) (x y : Service) (exchanges : List Exchange) → Of ask second x → Of ask first y → AreExchanges (x ∷ y ∷ []) exchanges → Pair first second exchanges
  pair first second x y [] ox oy h = absurd (no_refusal second x ox h.0)
  pair first second x y (e ∷ []) ox oy (inr h) = absurd (no_refusal second x ox h.0)
  pair first second x y (e ∷ []) ox oy (inl h) = absurd (no_refusal first y oy h.1.0)
  pair first second x y (e ∷ d ∷ more) ox oy (inr h) = absurd (no_refusal second x ox h.0)
  pair first second x y (e ∷ d ∷ more) ox oy (inl (ex, inr h)) = absurd (no_refusal first y oy h.0)
  pair first second x y (e ∷ d ∷ more) ox oy (inl (ex, inl h)) = record {
    newer = e;
    older = d;
    they = ap (λ l. e ∷ d ∷ l) h.1;
    newer_asks = same_request second x e ox ex;
    older_asks = same_request first y d oy h.0;
    newer_text = reply_text second x e ox ex;
    older_text = reply_text first y d oy h.0;
  }

-- ---- what they are owed

both_kept : (test : Exchange → Bool) (e d : Exchange) → test e ≡ true → test d ≡ true → filter test (e ∷ d ∷ []) ≡ e ∷ d ∷ []
both_kept test e d te td = grind arith

owed_two : (name : List ℕ) (make : Request) (e d : Exchange) (second first : Reply) → is_on name make ≡ true → replies_on name (make ∷ make ∷ []) ≡ second ∷ first ∷ [] → e.request ≡ make
    → d.request ≡ make → was_served e.reply ≡ true → was_served d.reply ≡ true → IsIsolatedIn name (e ∷ d ∷ []) → e.reply ∷ d.reply ∷ [] ≡ second ∷ first ∷ []
owed_two name make e d second first on owed re rd se sd isolated =
    let kept = both_kept (is_served_on name) e d (grind (arith, on, re, se)) (grind (arith, on, rd, sd)) in
    let they : answered_of (e ∷ d ∷ []) ≡ replies_on name (asked_of (e ∷ d ∷ [])) = subst (λ l. answered_of l ≡ replies_on name (asked_of l)) kept isolated in
    they ∙ ap (λ (r : Request). replies_on name (r ∷ d.request ∷ [])) re ∙ ap (λ (r : Request). replies_on name (make ∷ r ∷ [])) rd ∙ owed

head_reply : Reply → List Reply → Reply
head_reply other [] = other
head_reply other (r ∷ more) = r

-- ---- the run

module _ (name : List ℕ) (make : Request) (ask : List ℕ) (asks : Asks ask make) (told : List ℕ) (second first : Reply) where
  pub not_told_twice : ((rest : List ℕ) → [] ≡ told ++ rest → ⊥) → ((r : Reply) (rest : List ℕ) → text_sent (sends_body make.method) r ≡ told ++ rest → was_served r ≡ true)
      → ((rest : List ℕ) → text_sent (sends_body make.method) second ≡ told ++ rest → ⊥) → is_on name make ≡ true → replies_on name (make ∷ make ∷ []) ≡ second ∷ first ∷ []
      → (one last : State) (run : EventsLeadTo one (both_asked ask told told) last) → IsIsolatedRun one (both_asked ask told told) last run → ⊥
  unfolding head_reply
  not_told_twice some served other on owed one last run isolated =
      let newer_left = run.2 in
      let older_left = run.1.1.1.1.2 in
      let newer = served_here 1 (request_bytes 1 ask ∷ arrival 1 ∷ departure 0 ∷ reply_bytes 0 told ∷ request_bytes 0 ask ∷ arrival 0 ∷ []) isolated.services (at run.0 1) (told ++ newer_left.0)
      (some newer_left.0) refl newer_left.1 (isolated.each.0.1 1) in
      let older = served_here 0 (request_bytes 0 ask ∷ arrival 0 ∷ []) isolated.services (at run.1.1.1.1.0 0) (told ++ older_left.0)
      (some older_left.0) refl older_left.1 (isolated.each.0.0.0.0.0.1 0) in
      let them = two ask told told (told ++ older_left.0) (told ++ newer_left.0) isolated.services isolated.pieces older newer in
      let exchanged = subst (λ l. AreExchanges l isolated.exchanges) them.they isolated.asked in
      let both = pair make ask asks (told ++ older_left.0) (told ++ newer_left.0) them.newer them.older isolated.exchanges them.newer_is them.older_is exchanged in
      let replies = owed_two name make both.newer both.older second first on owed both.newer_asks both.older_asks (served both.newer.reply newer_left.0 both.newer_text)
      (served both.older.reply older_left.0 both.older_text) (subst (IsIsolatedIn name) both.they (isolated.isolated name)) in
      let is_second : both.newer.reply ≡ second = ap (head_reply second) replies in
      other newer_left.0 (ap (text_sent (sends_body make.method)) (sym is_second) ∙ both.newer_text)

-- ---- the channel that is made twice

begins_so : (rest : List ℕ) → [] ≡ told ++ rest → ⊥
begins_so rest e = not_nothing _ _ (sym e)

tenth : List ℕ → ℕ
tenth l = get_or l 9 0

no_503 : (r : Reply) (rest : List ℕ) → r.status ≡ 503 → text_sent true r ≡ told ++ rest → ⊥
unfolding tenth
no_503 r rest unserved e =
    let it : tenth (text_sent true (record r { status = 503 })) ≡ 50 = subst (λ n. tenth (text_sent true (record r { status = n })) ≡ 50) unserved (ap tenth e) in
    omega (arith, it)

is_503 : (n : ℕ) → (n == 503) ≡ true → n ≡ 503
is_503 n e = grind arith

served_by : (r : Reply) (rest : List ℕ) (b : Bool) → (r.status == 503) ≡ b → text_sent true r ≡ told ++ rest → not b ≡ true
served_by r rest true is e = absurd (no_503 r rest (is_503 r.status is) e)
served_by r rest false is e = refl

no_409 : (rest : List ℕ) → text_sent true (line 409 (codes "channel exists")) ≡ told ++ rest → ⊥
unfolding tenth
no_409 rest e = let it : tenth (text_sent true (line 409 (codes "channel exists"))) ≡ 50 = ap tenth e in omega (arith, it)

on_a : is_on (codes "a") make ≡ true
unfolding on_literals
on_a = refl

owed : replies_on (codes "a") (make ∷ make ∷ []) ≡ line 409 (codes "channel exists") ∷ bare 201 ∷ []
unfolding on_literals
owed = refl

pub channels_are_made_once : ChannelsAreMadeOnce
channels_are_made_once ask asks first last run isolated =
    not_told_twice (codes "a") make ask asks told (line 409 (codes "channel exists")) (bare 201) begins_so (λ r rest e. served_by r rest (r.status == 503) refl e) no_409 on_a owed first last run
    isolated
