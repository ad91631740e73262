use Rattle.std.proofs.Common.{◌≡◌, map, length}
use Rattle.std.specs.Prelude.{fold}
use Rattle.break_finder.specs.Kept.{break_at}
use Rattle.break_finder.specs.Inner.Known.{with_tag}
use Rattle.break_finder.proofs.carry.add_break_tags.Given as goal

abbrev pub invariant-loop-tag : goal.invariant-loop-tag
invariant-loop-tag l = fold with_tag (map break_at l.breaks.entries) l.rest ≡ fold with_tag (map break_at l.fn.breaks.entries) l.date_ranges

abbrev pub decreases-loop-tag : goal.decreases-loop-tag
decreases-loop-tag l = length l.rest
