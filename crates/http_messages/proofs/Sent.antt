-- Two texts handed out in turn.
use Rattle.std.proofs.Common.{◌≡◌, ℕ, ◌+◌, ◌-◌, Bool, List, ◌++◌, take, length, ap, sym, ◌∙◌, arith, append_assoc, length-append}
use Rattle.std.specs.Prelude.{Option, Some, None, Result, OnOk, OnErr}
use Rattle.std.specs.Io.KnownBytes.{Appends}
use Rattle.std.proofs.KnownBytes.{Appends-trans}
use Rattle.byte_streams.specs.Stands.{SinkStand, TookAll, FailedAfterFront}
use Rattle.std.proofs.Math.Seq.{take-append-add}
use Rattle.byte_streams.specs.Handed.{TookFront}
use Rattle.http_messages.specs.declared.message.Reply.{Reply}
use Rattle.http_messages.specs.Replies.{head_text, reply_body_sent, text_sent}

take_same : (k n : ℕ) (xs : List ℕ) → k ≡ n → take k xs ≡ take n xs
take_same k n xs e = ap (λ m. take m xs) e

-- the first, and a front of the second
pub front_of_second : (a b c : Option (List ℕ)) (one two : List ℕ) → Appends a b one → TookFront b c two → TookFront a c (one ++ two)
front_of_second None b c one two h g = tt
front_of_second (Some x) None c one two h g = absurd h
front_of_second (Some x) (Some y) None one two h g = absurd g
front_of_second (Some x) (Some y) (Some z) one two h g =
    let k = length z - length y in
    let grown : length z ≡ length y + length (take k two) = ap length g ∙ length-append y (take k two) in
    let first : length y ≡ length x + length one = ap length h ∙ length-append x one in
    let n : length z - length x ≡ length one + k = omega (arith, grown, first) in
    g ∙ ap (λ l. l ++ take k two) h ∙ append_assoc x one (take k two)
    ∙ ap (λ l. x ++ l) (sym (take_same (length z - length x) (length one + k) (one ++ two) n ∙ take-append-add one two k))

-- all of the first, and then as the second is handed out
pub taken_both : {A E : Type 0} (r : Result A E) (a b c : SinkStand) (one two : List ℕ) → TookAll a b one → OnOk r (TookAll b c two) → OnOk r (TookAll a c (one ++ two))
taken_both r a b c one two h g = grind (arith, Appends-trans)

pub front_of_both : {A E : Type 0} (r : Result A E) (a b c : SinkStand) (one two : List ℕ) → TookAll a b one → OnErr r (FailedAfterFront b c two) → OnErr r (FailedAfterFront a c (one ++ two))
front_of_both r a b c one two h g = grind (arith, front_of_second)

-- the text of a reply, from its head as it is handed out
pub same_text : (bytes text head body : List ℕ) (with_body : Bool) (reply : Reply) → bytes ≡ text → text ≡ head → head ≡ head_text reply → body ≡ reply_body_sent with_body reply
    → bytes ++ body ≡ text_sent with_body reply
same_text bytes text head body with_body reply a b c d = ap (λ l. l ++ body) (a ∙ b ∙ c) ∙ ap (λ l. head_text reply ++ l) d
