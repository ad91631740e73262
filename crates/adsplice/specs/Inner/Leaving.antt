-- What becomes of the lists of clients when one goes.
use Rattle.std.specs.Prelude.{ℕ, filter}
use Rattle.connections.specs.Arrivals.{is_elsewhere}
use Rattle.connections.specs.Lines.{after, leaves}
use Rattle.adsplice.specs.Clients.{ClientsState}

-- the client at this place is neither heard nor answered any more
abbrev pub not_served : {X : Type 0} → ℕ → ClientsState X → ClientsState X
not_served place clients = record clients {
  served = filter (is_elsewhere place) clients.served;
  heard = filter (is_elsewhere place) clients.heard;
  took = filter (is_elsewhere place) clients.took;
  short = filter (is_elsewhere place) clients.short;
  line = after (leaves place) clients.line;
}
