-- How the body of a request that makes no channel, and the state of a break, are told.
use Rattle.std.specs.Prelude.{ℕ, List, codes}
use Rattle.pod_store.specs.declared.fault.DecisionKind.TheVariants as decisions
use Rattle.pod_store.specs.FaultTexts.{kind_text}
use Rattle.break_finder.specs.declared.why.Why.{Why}
use Rattle.break_finder.specs.declared.why.Why.TheVariants as word
use Rattle.channel_api.specs.declared.channel_body.BodyFault.{BodyFault}
use Rattle.channel_api.specs.declared.channel_body.BodyFault.TheVariants as body

-- as the same faults of a decision file
abbrev pub body_fault_text : BodyFault → List ℕ
body_fault_text body.NotJson = kind_text decisions.NotJson
body_fault_text body.Shape = kind_text decisions.Shape
body_fault_text body.OutOfMemory = kind_text decisions.OutOfMemory

abbrev pub why_word : Why → List ℕ
why_word word.Filled = codes "Filled"
why_word word.NotKnown = codes "NotKnown"
why_word word.NoStart = codes "NoStart"
why_word word.NotSignalled = codes "NotSignalled"
why_word word.NotDecided = codes "NotDecided"
why_word word.DoesNotFit = codes "DoesNotFit"
why_word word.Waiting = codes "Waiting"
