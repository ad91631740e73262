use Rattle.std.proofs.Common.{◌≡◌, ◌++◌, length}
use Rattle.channel_window.specs.Inner.Listed.{date_range_texts_left_in_window}
use Rattle.channel_window.proofs.writing.date_range_texts_left_in_window.Given as goal

abbrev pub invariant-loop-date_range : goal.invariant-loop-date_range
invariant-loop-date_range l = l.texts.items ++ date_range_texts_left_in_window l.set l.rest ≡ date_range_texts_left_in_window l.set l.date_ranges

abbrev pub decreases-loop-date_range : goal.decreases-loop-date_range
decreases-loop-date_range l = length l.rest
