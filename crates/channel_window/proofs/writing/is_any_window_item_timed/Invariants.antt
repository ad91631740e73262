use Rattle.std.proofs.Common.{◌≡◌, length}
use Rattle.std.specs.List.{list_any}
use Rattle.channel_window.specs.Listed.{writes_time}
use Rattle.channel_window.proofs.writing.is_any_window_item_timed.Given as goal

abbrev pub invariant-loop-item : goal.invariant-loop-item
invariant-loop-item l = list_any writes_time l.items ≡ list_any writes_time l.fn.items

abbrev pub decreases-loop-item : goal.decreases-loop-item
decreases-loop-item l = length l.items
