-- The store that is kept has the pods of the marks that are kept.
use Rattle.std.proofs.Common.{ℕ, List, [], ◌∷◌, arith}
use Rattle.std.specs.List.{AllByRecursion}
use Rattle.pod_store.specs.Marks.{Marked}
use Rattle.pod_store.specs.Store.{Store}
use Rattle.break_finder.specs.Known.{Accepted}
use Rattle.channel_spec.specs.Live.{last_playlist}
use Rattle.channel_spec.specs.LiveLaws.{HasPod, ShownHavePods, first_shown}
use Rattle.channel_spec.specs.Kept.{shown_from, shown_by}
use Rattle.channel_spec.specs.KeptLaws.{KeptHavePods}
use Rattle.channel_spec.proofs.UsedPods.{marks_have_pods}

from_shown : (store : Store) (first : ℕ) (history : List Marked) → ShownHavePods store first history → AllByRecursion (λ (s : Marked). HasPod store s.mark) (shown_from first history)
from_shown store first [] h = tt
from_shown store first (s ∷ before) h = grind (arith, from_shown store first before h.1)

shown_have : (store : Store) (accepted : List Accepted) (history : List Marked) → ShownHavePods store (first_shown accepted) history
    → AllByRecursion (λ (s : Marked). HasPod store s.mark) (shown_by (last_playlist accepted) history)
shown_have store [] history h = tt
shown_have store (a ∷ earlier) history h = from_shown store (first_shown (a ∷ earlier)) history h

pub kept_have_pods : KeptHavePods
kept_have_pods tolerance events sound = grind (arith, marks_have_pods, shown_have)
