-- What a decision file tells before a playlist is read.
use Rattle.std.specs.Prelude.{ℕ, List, [], ◌∷◌, Option, Some, None, Ok}
use Rattle.pod_store.specs.declared.fault.DecisionFault.{DecisionFault}
use Rattle.pod_store.specs.declared.fault.DecisionKind.{DecisionKind}
use Rattle.pod_store.specs.declared.fault.DecisionKind.TheVariants.{OutOfMemory as NoMemory}
use Rattle.pod_store.specs.declared.Decisions.{Decisions}
use Rattle.spec_words.specs.Outcomes.{◌>>=◌}
use Rattle.pod_store.specs.Outcome.{DecisionOutcome}
use Rattle.decision_files.specs.Decided.{decisions_of}
use Rattle.pod_store.specs.Store.{nothing_decided}
use Rattle.pod_store.specs.Store.{decided as after_decisions}
use Rattle.channel_spec.specs.Live.{Event, decided}
use Rattle.vod_run.specs.declared.fault.VodFault.{VodFault}
use Rattle.vod_run.specs.declared.fault.VodFault.TheVariants.{Decision, OutOfMemory}

-- decisions that a store takes in which no break is decided yet
abbrev pub first_decided : Decisions → DecisionOutcome (List Event)
first_decided decisions = after_decisions nothing_decided decisions >>= λ store. Ok (decided decisions ∷ [])

-- what a decision file tells, or its first fault; without a file nothing is told
abbrev pub events_of : Option (List ℕ) → DecisionOutcome (List Event)
events_of None = Ok []
events_of (Some bytes) = decisions_of bytes >>= first_decided

-- ---- faults

abbrev pub fault_by : DecisionFault → DecisionKind → VodFault
fault_by fault NoMemory = OutOfMemory
fault_by fault _ = Decision fault

-- every failed allocation is one fault
abbrev pub fault_of_decisions : DecisionFault → VodFault
fault_of_decisions fault = fault_by fault fault.kind
