use Rattle.std.proofs.Common.{◌≡◌, ◌++◌, take, drop}
use Rattle.playlist_kept.proofs.step.push_some_kept_members.Given as goal

-- those that are pushed, with those that are left to push, are the same always; so are those after them
abbrev pub invariant-loop-left : goal.invariant-loop-left
invariant-loop-left l =
    (l.list.items ++ take l.left l.members ≡ l.initial.list.items ++ take l.most l.initial.members)
    × (drop l.left l.members ≡ drop l.most l.initial.members)

abbrev pub decreases-loop-left : goal.decreases-loop-left
decreases-loop-left l = l.left
