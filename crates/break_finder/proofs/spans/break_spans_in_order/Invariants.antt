use Rattle.std.proofs.Common.{◌≡◌, ◌*◌, length, take}
use Rattle.std.specs.List.{All}
use Rattle.break_finder.specs.Places.{HasPlaces}
use Rattle.break_finder.proofs.OrderedSpans.{AreOver, TellsUntil}
use Rattle.break_finder.proofs.spans.break_spans_in_order.Given as goal

abbrev pub invariant-loop-entrance : goal.invariant-loop-entrance
invariant-loop-entrance l = record {
  place : l.place ≡ l.entrance-index;
  over : AreOver l.tolerance (take l.entrance-index l.list) l.over;
  told : All (TellsUntil l.tolerance (take l.entrance-index l.list) l.over) l.spans.items;
  places : All (HasPlaces l.list) l.spans.items;
  count : length l.spans.items ≡ 2 * l.entrance-index;
}
