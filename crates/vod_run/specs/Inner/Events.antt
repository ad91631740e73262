-- What proofs and inner functions say with the definitions of `Events`.
use Rattle.std.specs.Prelude.{◌≡◌, Err}
use Rattle.pod_store.specs.Outcome.{DecisionOutcome}
use Rattle.vod_run.specs.declared.fault.VodFault.{VodFault}
use Rattle.vod_run.specs.declared.fault.VodFault.TheVariants.{Decision, OutOfMemory}

-- ---- faults

-- the fault is that of the file, or an allocation failed
abbrev pub RefusesDecisions : {A : Type 0} → VodFault → DecisionOutcome A → Type 0
RefusesDecisions (Decision fault) outcome = outcome ≡ Err fault
RefusesDecisions OutOfMemory outcome = Unit {0}
RefusesDecisions _ outcome = ⊥
