use Rattle.std.proofs.Common.{◌≡◌, ◌++◌, ap, subst, ◌∙◌}
use Rattle.std.specs.Prelude.{IfOk}
use Rattle.http_messages.specs.Arriving.{IsForeseen}
use Rattle.http_messages.proofs.arriving.Arriving.foresee.Goals as goal

pub returns : goal.returns
returns c =
    let all = c.extend_from_slice-2.new.self.items in
    let front = ap (λ l. l ++ c.as_slice-2.result.now) c.new-all.ensures.items ∙ c.as_slice-2.ensures.value ∙ c.self.view_is in
    let joined : all ≡ c.args.self.now ++ c.args.piece.now =
    c.in_ok-extend_from_slice-2.ensures.items ∙ ap (λ l. l ++ c.args.piece.now) (c.in_ok-extend_from_slice.ensures.items ∙ front) in
    subst (λ l. IfOk c.foresee_request.result (IsForeseen l)) (c.as_slice-3.ensures.value ∙ joined) c.foresee_request.ensures
