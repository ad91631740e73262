-- What a channel's requests are answered in a run.
use Rattle.std.proofs.Common.{◌≡◌, ℕ, Bool, true, false, cond, List, [], ◌∷◌, refl, sym, ap, subst, ◌∙◌, arith}
use Rattle.std.specs.Prelude.{Option, Some, None, ◌&&◌, filter}
use Rattle.pod_store.specs.declared.fault.DecisionKind.TheVariants as decision
use Rattle.channel_spec.specs.declared.fault.RefreshFault.TheVariants as fault
use Rattle.live_channel.specs.Channel as channel
use Rattle.http_messages.specs.declared.message.Request.{Request}
use Rattle.channel_api.specs.declared.routes.Resource.{Resource}
use Rattle.channel_api.specs.Routes.{route_path_of, route_of}
use Rattle.http_edge.specs.Table.{Table, turn_at, routed, turn, table_of}
use Rattle.http_edge.specs.Edges.{NamedChannel, RepresentsRequests, AreGiven, TakesTurn}
use Rattle.http_edge.specs.Isolation.{is_on, was_served, Exchange, ExchangesLeadTo, is_served_on, asked_of, answered_of, RunsAreIsolated}
use Rattle.http_edge.proofs.Isolated.{picked, turn_other, Alike, served_step, and_parts}

-- ---- a turn that is answered 503 leaves the table

at_left : (n : List ℕ) (r : Request) (resource : Resource) (table : Table) → was_served (turn_at table r n resource).reply ≡ false
    → (turn_at table r n resource).table ≡ table
at_left n r resource table is = grind arith

turn_left : (r : Request) (o : Option (List ℕ × Resource)) (table : Table) → was_served (routed table r o).reply ≡ false → (routed table r o).table ≡ table
turn_left r None table is = refl
turn_left r (Some route) table is = at_left route.0 r route.1 table is

-- ---- one exchange more

-- the edge stands for requests, of which the channel sees those that were served
record Follows (x : List ℕ) (served : List Exchange) (last : List NamedChannel) : Type 0 where
  requests : List Request
  stands : RepresentsRequests last requests
  alike : Alike x requests (table_of requests) (answered_of served) (asked_of served)

-- what is left out of a channel's exchanges leaves its entries
entries_left : (b : Bool) (x : List ℕ) (r : Request) (table : Table) → is_on x r ≡ b → (b && was_served (turn table r).reply) ≡ false
    → picked x (turn table r).table ≡ picked x table
entries_left true x r table on is = ap (picked x) (turn_left r (route_of (route_path_of r.target)) table is)
entries_left false x r table on is = turn_other x r (route_of (route_path_of r.target)) table on

module _ (x : List ℕ) (e : Exchange) (served : List Exchange) (old new : List NamedChannel) (h : Follows x served old) where
  abbrev table : Table
  table = table_of h.requests

  owed_in : e.reply ≡ (turn table e.request).reply → AreGiven new (turn table e.request).table → is_served_on x e ≡ true → Follows x (e ∷ served) new
  owed_in same s is =
      let parts = and_parts (is_on x e.request) (was_served e.reply) is in
      let more = served_step x e.request h.requests (asked_of served) (answered_of served) parts.0 (subst (λ y. was_served y ≡ true) same parts.1) h.alike in
      record { requests = e.request ∷ h.requests; stands = s; alike = (more.0, ap (λ y. y ∷ answered_of served) same ∙ more.1) }

  owed_out : e.reply ≡ (turn table e.request).reply → AreGiven new (turn table e.request).table → is_served_on x e ≡ false → Follows x served new
  owed_out same s is =
      let out = subst (λ y. (is_on x e.request && was_served y) ≡ false) same is in
      record { requests = e.request ∷ h.requests; stands = s; alike = (entries_left (is_on x e.request) x e.request table refl out ∙ h.alike.0, h.alike.1) }

  either_way : (b : Bool) → is_served_on x e ≡ b → TakesTurn (turn table e.request) table e.reply new → Follows x (cond b (e ∷ served) served) new
  either_way b is h1 = grind (arith, owed_in, owed_out)

-- ---- all exchanges

followed : (x : List ℕ) (first last : List NamedChannel) (run : List Exchange) → RepresentsRequests first [] → ExchangesLeadTo first run last → Follows x (filter (is_served_on x) run) last
followed x first last [] s h = record { requests = []; stands = subst (λ k. RepresentsRequests k []) (sym h) s; alike = (refl, refl) }
followed x first last (e ∷ before) s h =
    let k = followed x first h.0 before s h.1 in
    either_way x e (filter (is_served_on x) before) h.0 last k (is_served_on x e) refl (h.2 k.requests k.stands)

pub isolated_runs : RunsAreIsolated
isolated_runs x first last run s h = (followed x first last run s h).alike.1
