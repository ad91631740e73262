use Rattle.std.proofs.Common.{◌≡◌, None, replicate}
use Rattle.adsplice.proofs.clients.no_socket_clients.Given as goal

abbrev pub invariant-loop : goal.invariant-loop
invariant-loop l = l.clients.items ≡ replicate l.counter None
