use Rattle.live_channel.proofs.Marks.{named_before}
use Rattle.live_channel.proofs.in_use.push_unsettled_live_mark.Goals as goal

pub returns-then-is_live_mark_settled : goal.returns-then-is_live_mark_settled
returns-then-is_live_mark_settled c =
    let marks = c.args.marks.now.items in
    named_before marks c.args.marked.now.mark (c.is_live_mark_settled.ensures c.if-is_live_mark_settled.true marks c.requires.before c.requires.again)
