use Rattle.std.proofs.Common.{◌≡◌, ◌+◌, ◌∙◌, sym, subst, arith}
use Rattle.connections.specs.Table.{held_of, held_in}
use Rattle.connections.proofs.Held.{held_taken, sent_at}
use Rattle.connections.proofs.table.Connections.advance.Goals as goal

pub put_back-requires-clause-room : goal.put_back-requires-clause-room
put_back-requires-clause-room g c =
    let same = held_taken _ c.in-Some.conversation c.advance_connection_reply-after.result c.advance_connection_reply-after.ensures in
    let was = subst (λ o. held_in c.take_out.new.self.places + held_of o ≡ held_in c.args.self.now.places) c.in-Some.is c.take_out.ensures.held in
    omega (arith, same, was, c.take_out.ensures.bound)

pub returns : goal.returns
returns g c =
    sent_at c.args.self.now c.take_out.new.self c.put_back.new.self c.args.seat.now c.args.count c.in-Some.conversation c.advance_connection_reply-after.result
    (sym c.in-Some.is ∙ c.take_out.ensures.it) c.take_out.ensures.puts c.take_out.ensures.edge c.advance_connection_reply-after.ensures c.put_back.ensures.puts c.put_back.ensures.edge
