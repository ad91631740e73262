use Rattle.std.proofs.Common.{◌++◌, refl, subst, sym}
use Rattle.http_messages.specs.Arriving.{AsksFor, IsForeseen}
use Rattle.http_messages.specs.declared.receiving.Asked.TheVariants as asked
use Rattle.connections.specs.Inner.Outlooks.{IsOutlook}
use Rattle.connections.proofs.FirstBytes.{by_turn}
use Rattle.connections.proofs.table.client_outlook.Goals as goal

pub returns-in-Refused : goal.returns-in-Refused
returns-in-Refused c =
    let bytes = c.args.arriving.now ++ c.args.bytes.now in
    let refused = subst (IsForeseen bytes) c.in-Refused.is c.in_ok-foresee.ensures in
    record { asked = asked.Refused refused.0; asks = refused.1; takes = refl }

pub returns-in-Whole : goal.returns-in-Whole
returns-in-Whole c =
    let bytes = c.args.arriving.now ++ c.args.bytes.now in
    let whole = subst (IsForeseen bytes) c.in-Whole.is c.in_ok-foresee.ensures in
    let asks = subst (AsksFor bytes c.in-Whole.gets) (sym c.as_str.ensures.text) whole in
    subst (IsOutlook c.args.edge.now bytes) (sym c.outlook_of_request.ensures) (by_turn c.args.edge.now bytes c.in-Whole.gets c.as_str.result.now _ asks refl)
