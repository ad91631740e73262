use Rattle.std.proofs.Common.{rules, ◌≡◌, true}
use Rattle.std.specs.List.{list_any}
use Rattle.channel_window.specs.Listed.{writes_time}
use Rattle.channel_window.proofs.Ranges.{left_timed}
use Rattle.channel_window.proofs.writing.date_ranges_left.Goals as goal

pub returns : goal.returns
returns c =
    let timed : list_any writes_time c.args.items.now ≡ true = search rules in
    left_timed (λ v. v.items) _ _ _ _ _ timed c.in_ok-set.ensures c.date_range_texts_left_in_window.ensures
