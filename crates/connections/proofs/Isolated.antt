-- The replies of a run, channel by channel.
use Rattle.std.proofs.Common.{List, [], ◌∷◌, refl, sym, subst, inl, inr}
use Rattle.http_edge.specs.Edges.{NamedChannel}
use Rattle.http_edge.specs.Served.{IsServed}
use Rattle.http_edge.specs.Isolation.{Exchange}
use Rattle.http_edge.specs.Isolation as edge
use Rattle.http_edge.proofs.Runs.{isolated_runs}
use Rattle.connections.specs.Runs.{Service, InTurn}
use Rattle.connections.specs.Isolation.{IsRefusal, AreExchanges, ClientsAreIsolated}
use Rattle.connections.proofs.Served.{served}

-- the exchanges of services, and the run of the edge that they are
record Exchanged (first : List NamedChannel) (services : List Service) (last : List NamedChannel) : Type 0 where
  exchanges : List Exchange
  asked : AreExchanges services exchanges
  run : edge.ExchangesLeadTo first exchanges last

refused_beside : (s : Service) (before : List Service) (exchanges : List Exchange) → IsRefusal s → AreExchanges before exchanges → AreExchanges (s ∷ before) exchanges
refused_beside s before [] r a = (r, a)
refused_beside s before (e ∷ earlier) r a = inr (r, a)

with_one : (first middle last : List NamedChannel) (s : Service) (before : List Service) → Exchanged first before middle → IsServed s.bytes middle last s.text s.status
    → Exchanged first (s ∷ before) last
with_one first middle last s before rec (inl h) = record {
  exchanges = record { request = h.request; reply = h.reply } ∷ rec.exchanges;
  asked = inl (record { asks = h.asks; text_is = h.text_is }, rec.asked);
  run = (middle, rec.run, h.answers);
}
with_one first middle last s before rec (inr h) = record {
  exchanges = rec.exchanges;
  asked = refused_beside s before rec.exchanges (record { refusal = h.refusal; refused = h.refused; text_is = h.text_is }) rec.asked;
  run = subst (edge.ExchangesLeadTo first rec.exchanges) (sym h.kept) rec.run;
}

exchanged : (first : List NamedChannel) (services : List Service) (last : List NamedChannel) → InTurn first services last → Exchanged first services last
exchanged first [] last h = record { exchanges = []; asked = refl; run = h }
exchanged first (s ∷ before) last h = with_one first h.0 last s before (exchanged first before h.0 h.1) h.2

pub clients_are_isolated : ClientsAreIsolated
clients_are_isolated first last events vacant new run =
    let it = served first last events vacant run in
    let them = exchanged first.edge it.services last.edge it.turns in record {
      services = it.services;
      pieces = it.pieces;
      each = it.each;
      exchanges = them.exchanges;
      asked = them.asked;
      isolated = λ name. isolated_runs name first.edge last.edge them.exchanges new them.run;
    }
