use Rattle.std.proofs.Common.{◌≡◌, ℕ, List, ap, subst, sym, ◌∙◌}
use Rattle.std.specs.Prelude.{Option, Some, None, min, position, bytes_eq, unwrap_or}
use Rattle.http_edge.specs.Edges.{NamedChannel}
use Rattle.http_edge.specs.Waiting.{no_channel}
use Rattle.http_edge.proofs.Numbers.{same_position}
use Rattle.http_edge.proofs.channels.Channels.number.Goals as goal

abbrev number_of : Option ℕ → ℕ
number_of o = min (unwrap_or o no_channel) no_channel

abbrev place_of : List ℕ → List NamedChannel → Option ℕ
place_of name kept = position (λ (one : NamedChannel). bytes_eq name one.name) kept

pub returns-in-Some : goal.returns-in-Some
returns-in-Some c =
    let name = c.args.name.now in
    let found = sym (same_position name c.self.inside.by_name.entries) ∙ sym c.get_index_of.ensures.index ∙ c.in-Some.is in
    let place = subst (λ k. place_of name k ≡ Some c.in-Some.number) c.self.view_is found in
    c.min.ensures ∙ sym (ap number_of place)

pub returns-in-None : goal.returns-in-None
returns-in-None c =
    let name = c.args.name.now in
    let found = sym (same_position name c.self.inside.by_name.entries) ∙ sym c.get_index_of.ensures.index ∙ c.in-None.is in
    let place = subst (λ k. place_of name k ≡ None) c.self.view_is found in
    sym (ap number_of place)
