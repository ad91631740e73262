-- The place of a name in the map is that in the table.
use Rattle.std.proofs.Common.{◌≡◌, ℕ, cond, ltb, List, [], ◌∷◌, length, map, refl, arith}
use Rattle.std.specs.Prelude.{Some, None, bytes_eq, position, String}
use Rattle.std.specs.List.{position_or_len}
use Rattle.std.specs.Map.{keys_of}
use Rattle.live_channel.specs.Channel as channel
use Rattle.channel_api.specs.Named.{has_this_key}
use Rattle.http_edge.specs.Edges.{NamedChannel, named_channel}

same_length : {A : Type 0} (es : List (String A × channel.Channel)) → length (keys_of es) ≡ length (map named_channel es)
same_length [] = refl
same_length (e ∷ es) = grind (arith, same_length es)

same_place : {A : Type 0} (name : List ℕ) (es : List (String A × channel.Channel))
    → position_or_len (has_this_key name) (keys_of es) ≡ position_or_len (λ (one : NamedChannel). bytes_eq name one.name) (map named_channel es)
same_place name [] = refl
same_place name (e ∷ es) = grind (arith, same_place name es)

pub same_position : {A : Type 0} (name : List ℕ) (es : List (String A × channel.Channel))
    → position (has_this_key name) (keys_of es) ≡ position (λ (one : NamedChannel). bytes_eq name one.name) (map named_channel es)
same_position name es = λ i. cond (ltb (same_place name es i) (same_length es i)) (Some (same_place name es i)) None
