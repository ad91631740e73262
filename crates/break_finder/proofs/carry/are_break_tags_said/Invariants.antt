use Rattle.std.proofs.Common.{map}
use Rattle.break_finder.specs.Kept.{break_at}
use Rattle.break_finder.specs.Inner.Known.{TagsSayNothingNew}
use Rattle.break_finder.proofs.carry.are_break_tags_said.Given as goal

abbrev pub invariant-loop-id : goal.invariant-loop-id
invariant-loop-id l = TagsSayNothingNew (map break_at l.id-iterator) l.rest → TagsSayNothingNew (map break_at l.breaks.entries) l.date_ranges
