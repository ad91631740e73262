use Rattle.std.proofs.Common.{sym, ◌∙◌}
use Rattle.playlist_model.proofs.MemberLists.{value_before_rest}
use Rattle.playlist_model.proofs.member.Members.next.Goals as goal

pub returns-clause-next : goal.returns-clause-next
returns-clause-next c =
    sym c.self.view_is ∙ value_before_rest c.self.inside.list.now c.in_ok-list.list c.self.inside.place _ c.in_ok-list.ensures
