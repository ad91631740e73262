use Rattle.std.proofs.Common.{◌≡◌, ◌||◌, ℕ, List, length}
use Rattle.std.specs.List.{list_any}
use Rattle.pod_store.specs.Store.{is_one_of}
use Rattle.break_finder.specs.Known.{is_tag_of}
use Rattle.break_finder.proofs.carry.break_ids_of.Given as goal

abbrev pub invariant-loop-tag : goal.invariant-loop-tag
invariant-loop-tag l = (id : List ℕ) → (is_one_of l.ids id || list_any (is_tag_of id) l.rest) ≡ list_any (is_tag_of id) l.date_ranges

abbrev pub decreases-loop-tag : goal.decreases-loop-tag
decreases-loop-tag l = length l.rest
