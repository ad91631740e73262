use Rattle.std.proofs.Common.{◌≡◌, ◌<◌, ◌⊎◌, drop, not, true, false}
use Rattle.std.specs.List.{list_all}
use Rattle.connections.specs.Arrivals.{is_answered}
use Rattle.connections.proofs.table.memory_of_replies.Given as goal

abbrev pub invariant-loop-it : goal.invariant-loop-it
invariant-loop-it l =
    (list_all (λ it. not (is_answered it)) l.places ≡ true → (l.memory ≡ 0) × (list_all (λ it. not (is_answered it)) (drop l.it-index l.places) ≡ true))
    × (list_all (λ it. not (is_answered it)) l.places ≡ false → (0 < l.memory) ⊎ (list_all (λ it. not (is_answered it)) (drop l.it-index l.places) ≡ false))
