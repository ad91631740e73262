use Rattle.std.proofs.Common.{◌≡◌, ◌≤◌, ◌-◌, take, length, map}
use Rattle.std.specs.Prelude.{string_bytes}
use Rattle.std.specs.List.{flat_map}
use Rattle.break_finder.specs.Entering.{id_of_break}
use Rattle.live_channel.specs.Channel.{explained}
use Rattle.channel_api.specs.Replies.{why_line}
use Rattle.http_edge.proofs.replies.edge_why_lines.Given as goal

abbrev pub invariant-loop-id : goal.invariant-loop-id
invariant-loop-id l = record {
  within : l.place ≤ length l.channel.kept.breaks;
  lines : string_bytes l.lines ≡ flat_map (why_line (explained l.channel.kept)) (map id_of_break (take l.place l.channel.kept.breaks));
}

abbrev pub decreases-loop-id : goal.decreases-loop-id
decreases-loop-id l = length l.channel.kept.breaks - l.place
