use Rattle.std.proofs.Common.{◌∙◌, arith}
use Rattle.std.proofs.lemmas.List.{append-nil}
use Rattle.std.proofs.lemmas.Grind.{common_steps}
use Rattle.playlist_write.proofs.Changes.{nothing_owed}
use Rattle.playlist_write.proofs.OnlyKey.{key_alone_leads_on}
use Rattle.playlist_write.proofs.segments.write_changes_before_segment.Goals as goal

pub returns-then-written_segment_changes_nothing-clause-text : goal.returns-then-written_segment_changes_nothing-clause-text
returns-then-written_segment_changes_nothing-clause-text c = grind (arith, common_steps, append-nil, nothing_owed)

pub returns-then-branch-clause-text : goal.returns-then-branch-clause-text
returns-then-branch-clause-text c =
    let alone = c.may_change_written_key_alone.ensures c.if-may_change_written_key_alone.true in
    key_alone_leads_on c.args.common c.args.before c.args.next.now c.args.key.now c.push_next.new.self c.again.result _ _ c.requires.common alone.0 alone.1 c.requires.key (c.again.ensures ∙ c.keys-keys.ensures) (c.in_ok-push_next.ensures.pushed c.if-branch.true)
