use Rattle.std.proofs.Common.{◌≡◌, refl, arith}
use Rattle.std.proofs.lemmas.Grind.{common_steps}
use Rattle.channel_api.specs.declared.channel_body.BodyFault.{BodyFault}
use Rattle.channel_api.specs.declared.channel_body.BodyFault.TheVariants.{NotJson, Shape, OutOfMemory}
use Rattle.channel_api.specs.FaultTexts.{body_fault_text}
use Rattle.channel_api.specs.Replies.{reply_line, body_fault_reply}
use Rattle.channel_api.proofs.replies.body_fault_reply.Goals as goal

told : (fault : BodyFault) → (fault ≡ OutOfMemory → ⊥) → reply_line 422 (body_fault_text fault) ≡ body_fault_reply fault
told NotJson other = refl
told Shape other = refl
told OutOfMemory other = absurd (other refl)

pub returns-in_default-clause-reply : goal.returns-in_default-clause-reply
returns-in_default-clause-reply c = grind (arith, common_steps, told)
