-- What a connection came to.
use Rattle.std.proofs.Common.{◌≡◌, ℕ, Bool, true, List, refl, ap, subst, ◌∙◌, inr, arith}
use Rattle.std.specs.Prelude.{Result, OnOk, OnErr, IfOk, IsErrOf}
use Rattle.std.proofs.lemmas.Grind.{common_steps}
use Rattle.std.proofs.lemmas.Bool.Decides.{nat_tests}
use Rattle.byte_streams.specs.Stands.{SourceStand, SinkStand, TookAll, FailedAfterFront}
use Rattle.http_messages.specs.declared.message.Reply.{Reply}
use Rattle.http_messages.specs.declared.receiving.Asked.{Asked}
use Rattle.http_messages.specs.declared.receiving.Asked.TheVariants.{Request, Refused}
use Rattle.http_messages.specs.Received.{IsAsked, HasAsked}
use Rattle.http_messages.specs.Replies.{text_sent}
use Rattle.http_edge.specs.declared.serving.EdgeFault.{EdgeFault}
use Rattle.http_edge.specs.declared.serving.Served.{Served}
use Rattle.http_edge.specs.Edges.{NamedChannel}
use Rattle.http_edge.specs.Served.{IsReplyTo, IsServed, HasServed, HasServedFront, HasReplied, HasRepliedWhole, HasRepliedFront}

-- the reply to what bytes ask serves them
pub serves : (bytes : List ℕ) (it : Asked) (old new : List NamedChannel) (reply : Reply) (with_body : Bool) (status : ℕ) → IsAsked bytes it
    → IsReplyTo it old new reply with_body → status ≡ reply.status → IsServed bytes old new (text_sent with_body reply) status
serves bytes (Request request) old new reply with_body status a k f = grind arith
serves bytes (Refused refusal) old new reply with_body status a k f = inr (record {
  refusal = refusal;
  refused = a;
  kept = k.0;
  text_is = ap (λ b. text_sent b reply) k.2 ∙ ap (text_sent true) k.1;
  status_is = f ∙ ap (λ (r : Reply). r.status) k.1;
})

-- and is what a source asked is answered, of whose text the sink took this
replies : (Took : List ℕ → Type 0) (it : Asked) (old new : List NamedChannel) (reply : Reply) (with_body : Bool) (status : ℕ)
    → IsReplyTo it old new reply with_body → status ≡ reply.status → Took (text_sent with_body reply) → HasReplied Took old new it status
replies Took (Request request) old new reply with_body status k f w = grind arith
replies Took (Refused refusal) old new reply with_body status k f w = grind (arith, common_steps, nat_tests)

module _ (so sn : SourceStand) (ko kn : SinkStand) (it : Asked) (old new : List NamedChannel) (reply : Reply) (with_body : Bool) (k : IsReplyTo it old new reply with_body) where
  pub served_whole : (r : Result Served EdgeFault) → HasAsked so sn it → OnOk r (TookAll ko kn (text_sent with_body reply))
      → IfOk r (λ (x : Served). x.status ≡ reply.status) → IfOk r (λ (x : Served). HasServed so sn ko kn old new x.status)
  served_whole r a w f = grind (arith, serves)

  pub served_front : (r : Result Served EdgeFault) (fault : EdgeFault) → HasAsked so sn it → OnErr r (FailedAfterFront ko kn (text_sent with_body reply))
      → IsErrOf r fault → HasServedFront so sn ko kn old new
  served_front r fault a w f = grind (arith, serves)

module _ (ko kn : SinkStand) (it : Asked) (old new : List NamedChannel) (reply : Reply) (with_body : Bool) (k : IsReplyTo it old new reply with_body) where
  pub replied_whole : (held : Asked) → it ≡ held → (r : Result Served EdgeFault) → OnOk r (TookAll ko kn (text_sent with_body reply))
      → IfOk r (λ (x : Served). x.status ≡ reply.status) → IfOk r (λ (x : Served). HasRepliedWhole ko kn old new held x.status)
  replied_whole held same r w f = grind (arith, replies)

  pub replied_front : (held : Asked) → it ≡ held → (r : Result Served EdgeFault) (fault : EdgeFault) → OnErr r (FailedAfterFront ko kn (text_sent with_body reply))
      → IsErrOf r fault → HasRepliedFront ko kn old new held
  replied_front held same r fault w f =
      let took = subst (λ x. OnErr x (FailedAfterFront ko kn (text_sent with_body reply))) f w in (
        reply.status,
        subst (λ q. HasReplied (FailedAfterFront ko kn) old new q reply.status) same (replies (FailedAfterFront ko kn) it old new reply with_body reply.status k refl took),
      )
