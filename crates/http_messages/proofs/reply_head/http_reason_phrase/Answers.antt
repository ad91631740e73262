use Rattle.std.proofs.Common.{◌≡◌, ◌≤◌, subst, ℕ, List, [], length, ap, sym, arith}
use Rattle.std.proofs.lemmas.Bool.Decides.{nat_tests}
use Rattle.std.specs.Prelude.{Option, Some, None, unwrap_or}
use Rattle.http.specs.StatusCode.{reason_phrase}
use Rattle.http_messages.specs.Replies.{reason_of}
use Rattle.http_messages.proofs.Reasons.{IsShort, reasons_are_short}
use Rattle.http_messages.proofs.reply_head.http_reason_phrase.Goals as goal

phrase_is : (n : ℕ) (phrase : Option (List ℕ)) → phrase ≡ reason_phrase n → unwrap_or phrase [] ≡ reason_of n
unfolding reason_of
phrase_is n phrase e = ap (λ p. unwrap_or p []) e

short : (text : List ℕ) (phrase : Option (List ℕ)) → Some text ≡ phrase → IsShort phrase → length text ≤ 40
short text phrase e s = let t : IsShort (Some text) = subst IsShort (sym e) s in grind (arith, nat_tests, t.short)

pub returns-in-Some-clause-value : goal.returns-in-Some-clause-value
returns-in-Some-clause-value c = phrase_is c.args.status (Some c.in-Some.text.now) c.in-Some.ensures.value

pub returns-in-Some-clause-short : goal.returns-in-Some-clause-short
returns-in-Some-clause-short c = short _ _ c.in-Some.ensures.value (reasons_are_short c.args.status)

pub returns-in-None-clause-value : goal.returns-in-None-clause-value
returns-in-None-clause-value c = phrase_is c.args.status None c.in-None.ensures.value
