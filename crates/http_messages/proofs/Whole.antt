-- What bytes ask, and what they ask with more after them.
use Rattle.std.proofs.Common.{◌≡◌, ℕ, ◌≤◌, Bool, List, [], ◌++◌, take, drop, length, codes, bytes_eq, sym, ap, subst, ◌∙◌, inl, inr, arith, true≢false, append_assoc}
use Rattle.std.specs.Prelude.{Option, Some, None, IsSomeAnd}
use Rattle.std.specs.Io.KnownBytes.{Consumes}
use Rattle.byte_streams.specs.Stands.{SourceStand}
use Rattle.std.proofs.KnownBytes.{Consumes-trans}
use Rattle.std.proofs.lemmas.List.{append-nil}
use Rattle.std.proofs.lemmas.Grind.{common_steps}
use Rattle.httparse.specs.Grammar.{RequestHead}
use Rattle.httparse.proofs.GrammarLemmas.{request_unique}
use Rattle.http_messages.specs.declared.message.Request.{Request}
use Rattle.http_messages.specs.declared.refusal.Refusal.{Refusal}
use Rattle.http_messages.specs.declared.refusal.Refusal.TheVariants.{BadRequest}
use Rattle.http_messages.specs.declared.head.Head.{Head}
use Rattle.http_messages.specs.declared.head.Framing.{Framing}
use Rattle.http_messages.specs.declared.head.Framing.TheVariants.{Body, Refused}
use Rattle.http_messages.specs.declared.receiving.Asked.{Asked}
use Rattle.http_messages.specs.declared.receiving.Asked.TheVariants as asked
use Rattle.http_messages.specs.Requests.{BeginsWith, HasNoHead, NeverHasHead, Asks, IsRefusedFor, framing_said}
use Rattle.http_messages.specs.Arriving.{AsksFor}
use Rattle.http_messages.specs.Received.{IsAsked, IsHeadAt, SourceHolds, HasAsked}
use Rattle.http_messages.proofs.Fronts.{count_in, is_body}

-- ---- more bytes

asks_more : (bytes more : List ℕ) (request : Request) → Asks bytes request → Asks (bytes ++ more) request
asks_more bytes more request a = grind (arith, common_steps)

refused_more : (bytes more : List ℕ) (refusal : Refusal) → IsRefusedFor bytes refusal → IsRefusedFor (bytes ++ more) refusal
refused_more bytes more refusal h1 = grind (arith, append_assoc)

asked_more : (bytes more : List ℕ) (it : Asked) → IsAsked bytes it → IsAsked (bytes ++ more) it
asked_more bytes more (asked.Request request) a = asks_more bytes more request a
asked_more bytes more (asked.Refused refusal) a = refused_more bytes more refusal a

-- ---- a head whose body is whole

pub asks_for : (bytes : List ℕ) (head : Head) (count : ℕ) (gets : Bool) (target : List ℕ) → IsHeadAt bytes head → head.framing ≡ Body count → count ≤ length (drop head.len bytes)
    → gets ≡ bytes_eq head.method (codes "GET") → target ≡ head.target → AsksFor bytes gets target
asks_for bytes head count gets target a f whole g t = record {
  request = record { method = head.method; target = head.target; body = take count (drop head.len bytes) };
  asks = record {
    h = a.h;
    rest = drop head.len bytes;
    begins = a.begins;
    count = count;
    framing = sym a.framing ∙ f;
    whole = whole;
    is = λ i. record { method = a.method i; target = a.target i; body = take count (drop head.len bytes) };
  };
  method = g;
  target_is = t;
}

-- ---- one alone

never_begins : (bytes : List ℕ) (h : RequestHead) (rest : List ℕ) → NeverHasHead bytes → BeginsWith bytes h rest → ⊥
never_begins bytes h rest never b = subst HasNoHead (append-nil bytes) (never []) h rest b

asks_one : (bytes : List ℕ) (one other : Request) → Asks bytes one → Asks bytes other → one ≡ other
asks_one bytes one other a b =
    let same = request_unique bytes a.h b.h a.rest b.rest a.begins.reads b.begins.reads in
    let counts = ap count_in (sym a.framing ∙ ap framing_said same.0 ∙ b.framing) in
    a.is ∙ (λ i. record { method = (same.0 i).method; target = (same.0 i).target; body = take (counts i) (same.1 i) }) ∙ sym b.is

not_both : (bytes : List ℕ) (request : Request) (refusal : Refusal) → Asks bytes request → IsRefusedFor bytes refusal → ⊥
not_both bytes request refusal a (inl b) =
    let same = request_unique bytes a.h b.h a.rest b.rest a.begins.reads b.begins.reads in
    true≢false (ap is_body (sym a.framing ∙ ap framing_said same.0 ∙ b.framing))
not_both bytes request refusal a (inr b) = never_begins bytes a.h a.rest b.0 a.begins

abbrev refusal_in : Framing → Refusal
refusal_in (Body n) = BadRequest
refusal_in (Refused refusal) = refusal

refused_one : (bytes : List ℕ) (one other : Refusal) → IsRefusedFor bytes one → IsRefusedFor bytes other → one ≡ other
refused_one bytes one other (inl a) (inl b) =
    let same = request_unique bytes a.h b.h a.rest b.rest a.begins.reads b.begins.reads in
    ap refusal_in (sym a.framing ∙ ap framing_said same.0 ∙ b.framing)
refused_one bytes one other (inl a) (inr b) = absurd (never_begins bytes a.h a.rest b.0 a.begins)
refused_one bytes one other (inr a) (inl b) = absurd (never_begins bytes b.h b.rest a.0 b.begins)
refused_one bytes one other (inr a) (inr b) = a.1 ∙ sym b.1

pub asked_one : (bytes : List ℕ) (one other : Asked) → IsAsked bytes one → IsAsked bytes other → one ≡ other
asked_one bytes one other a b = grind (arith, asks_one, not_both, refused_one)

-- ---- what a source held

-- the bytes before, and those of the last read
pub has_asked : (old mid new : SourceStand) (before block bytes seen : List ℕ) (it : Asked) → Consumes old.remaining mid.remaining before → Consumes mid.remaining new.remaining block
    → bytes ≡ before ++ block → seen ≡ bytes → IsAsked seen it → HasAsked old new it
has_asked old mid new before block bytes seen it first then joined same a = grind (arith, Consumes-trans)

all_asked : (old new : Option (List ℕ)) (bytes : List ℕ) (one other : Asked) → Consumes old new bytes → IsAsked bytes one → IsSomeAnd old (λ all. IsAsked all other) → one ≡ other
all_asked None new bytes one other given a h = absurd h
all_asked (Some input) None bytes one other given a h = absurd given
all_asked (Some input) (Some rest) bytes one other given a h =
    asked_one input one other (subst (λ l. IsAsked l one) (sym given) (asked_more bytes rest one a)) h

pub held_is_asked : (old new : SourceStand) (one other : Asked) → HasAsked old new one → SourceHolds old other → one ≡ other
held_is_asked old new one other a h = all_asked old.remaining new.remaining a.bytes one other a.given a.asks h
