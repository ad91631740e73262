-- Pods that a decision file decides keep the rules of pods.
use Rattle.std.proofs.Common.{◌≡◌, ℕ, true, List, [], ◌∷◌}
use Rattle.std.specs.Prelude.{Ok}
use Rattle.std.specs.List.{list_all, AllByRecursion}
use Rattle.std.proofs.lemmas.Bool.{and_parts}
use Rattle.pod_store.specs.Pods.{Decision}
use Rattle.pod_store.specs.declared.Decisions.{Decisions}
use Rattle.pod_store.specs.declared.Decisions.TheVariants.{Breaks, Withdraw, Fallback, NoFallback}
use Rattle.decision_files.specs.Decided.{decisions_of}
use Rattle.decision_files.proofs.Keeping.{decision_keeps, DecisionsKeep, decided_keep}
use Rattle.channel_spec.specs.Sound.{AllPods}
use Rattle.owed_is_denoted.specs.Laws.{KeepsRules}

each_keeps : (ds : List Decision) → list_all decision_keeps ds ≡ true → AllByRecursion (λ (d : Decision). KeepsRules d.1) ds
each_keeps [] h = tt
each_keeps (d ∷ ds) h = let a = and_parts (decision_keeps d) (list_all decision_keeps ds) h in (a.0, each_keeps ds a.1)

all_keep : (ds : Decisions) → DecisionsKeep ds → AllPods KeepsRules ds
all_keep (Breaks ds) h = each_keeps ds h
all_keep (Withdraw id) h = tt
all_keep (Fallback pod) h = h
all_keep NoFallback h = tt

pub pods_keep_rules : (bytes : List ℕ) (ds : Decisions) → decisions_of bytes ≡ Ok ds → AllPods KeepsRules ds
pods_keep_rules bytes ds e = all_keep ds (decided_keep bytes ds e)
