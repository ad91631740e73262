-- What is held and what is left while a reply is sent.
use Rattle.std.proofs.Common.{◌≡◌, ℕ, List, [], ◌∷◌, ◌++◌, take, drop, ap, refl, sym, subst, ◌∙◌, arith}
use Rattle.std.specs.Prelude.{Option, Some, None}
use Rattle.std.proofs.lemmas.List.{take-append-drop}
use Rattle.connections.specs.declared.conversation.Conversation.{Conversation}
use Rattle.connections.specs.declared.conversation.Conversation.TheVariants.{Asking, Answering}
use Rattle.connections.specs.Table.{State, at, held_of, left_of, with_left, reply_bytes, PutsAtPlace, Happens}

kept : (rest : List ℕ) (c : Conversation) → held_of (with_left rest (Some c)) ≡ held_of (Some c)
kept rest (Asking bytes pieces) = refl
kept rest (Answering before status) = refl

pub held_taken : (rest : List ℕ) (c after : Conversation) → Some after ≡ with_left rest (Some c) → held_of (Some after) ≡ held_of (Some c)
held_taken rest c after e = ap held_of e ∙ kept rest c

-- ---- what is left

pub sent_nothing : (bytes rest : List ℕ) → [] ≡ bytes ++ rest → bytes ≡ []
sent_nothing [] rest e = refl
sent_nothing (b ∷ bytes) rest e = grind arith

left_nothing : (bytes rest : List ℕ) → [] ≡ bytes ++ rest → [] ≡ rest
left_nothing [] rest e = e
left_nothing (b ∷ bytes) rest e = grind arith

left_with : (bytes rest : List ℕ) (c : Option Conversation) → left_of c ≡ bytes ++ rest → left_of (with_left rest c) ≡ rest
left_with bytes rest None e = left_nothing bytes rest e
left_with bytes rest (Some (Asking so_far pieces)) e = left_nothing bytes rest e
left_with bytes rest (Some (Answering owed status)) e = refl

-- what was left is what was sent, and what is left now
pub left_before : (place : ℕ) (bytes : List ℕ) (old new : State) → Happens old (reply_bytes place bytes) new → left_of (at old place) ≡ bytes ++ left_of (at new place)
left_before place bytes old new (rest, e, puts, edge) =
    e ∙ ap (λ l. bytes ++ l) (sym (ap left_of puts.here ∙ left_with bytes rest (at old place) e))

-- a connection is taken out, and put back with less left
pub sent_at : (old middle new : State) (place count : ℕ) (c after : Conversation) → Some c ≡ at old place → PutsAtPlace old middle place None → middle.edge ≡ old.edge
    → Some after ≡ with_left (drop count (left_of (Some c))) (Some c) → PutsAtPlace middle new place (Some after) → new.edge ≡ middle.edge
    → Happens old (reply_bytes place (take count (left_of (at old place)))) new
sent_at old middle new place count c after was out edge is back edge_then =
    let stands = λ (o : Option Conversation). Some after ≡ with_left (drop count (left_of o)) o in (
      drop count (left_of (at old place)),
      sym (take-append-drop count (left_of (at old place))),
      record {
        here = back.here ∙ subst stands was is;
        others = λ other e. back.others other e ∙ out.others other e;
        count = back.count ∙ out.count;
      },
      edge_then ∙ edge,
    )
