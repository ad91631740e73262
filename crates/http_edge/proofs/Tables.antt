-- What the map's words do to what it stands for.
use Rattle.std.proofs.Common.{◌≡◌, ℕ, List, [], ◌∷◌, ◌++◌, length, map, suc, refl, ap, arith}
use Rattle.std.specs.Prelude.{Option, Some, None, String, string_bytes}
use Rattle.std.specs.Map.{lookup, set_value, remove_entry}
use Rattle.live_channel.specs.Channel as channel
use Rattle.channel_api.specs.Named.{has_this_key}
use Rattle.http_edge.specs.Channels.{GivenChannel, IsGiven}
use Rattle.http_edge.specs.Table.{Table, given_at, put_given, without_channel}
use Rattle.http_edge.specs.Edges.{named_channel, AreGiven}

abbrev pub Entries : Type 0 → Type 0
Entries A = List (String A × channel.Channel)

-- a channel, or none, and what it was given
abbrev pub Agree : Option channel.Channel → Option GivenChannel → Type 0
Agree None None = Unit {0}
Agree (Some k) (Some g) = IsGiven k g
Agree None (Some g) = ⊥
Agree (Some k) None = ⊥

pub none_agrees : (q : Option GivenChannel) → Agree None q → q ≡ None
none_agrees None h = refl
none_agrees (Some g) h = absurd h

pub some_agrees : (k : channel.Channel) (q : Option GivenChannel) → Agree (Some k) q → (g : GivenChannel) × (q ≡ Some g) × IsGiven k g
some_agrees k None h = absurd h
some_agrees k (Some g) h = (g, refl, h)

module _ {A : Type 0} (name : List ℕ) where
  pub found : (es : Entries A) (table : Table) → AreGiven (map named_channel es) table → Agree (lookup (has_this_key name) es) (given_at name table)
  found [] [] s = tt
  found [] (t ∷ ts) s = absurd s
  found (e ∷ es) [] s = absurd s
  found (e ∷ es) (t ∷ ts) s = grind (arith, found es ts s.2)

  pub put : (es : Entries A) (table : Table) (w : channel.Channel) (g : GivenChannel) → AreGiven (map named_channel es) table → IsGiven w g
      → AreGiven (map named_channel (set_value (has_this_key name) es w)) (put_given name g table)
  put [] [] w g s h = tt
  put [] (t ∷ ts) w g s h = absurd s
  put (e ∷ es) [] w g s h = absurd s
  put (e ∷ es) (t ∷ ts) w g s h = grind (arith, put es ts w g s.2 h)

  pub taken_out : (es : Entries A) (table : Table) → AreGiven (map named_channel es) table
      → AreGiven (map named_channel (remove_entry (has_this_key name) es)) (without_channel name table)
  taken_out [] [] s = tt
  taken_out [] (t ∷ ts) s = absurd s
  taken_out (e ∷ es) [] s = absurd s
  taken_out (e ∷ es) (t ∷ ts) s = grind (arith, taken_out es ts s.2)

  pub added_after : (es : Entries A) (table : Table) (key : String A) (k : channel.Channel) (g : GivenChannel) → AreGiven (map named_channel es) table
      → string_bytes key ≡ name → IsGiven k g → AreGiven (map named_channel (es ++ (key, k) ∷ [])) (table ++ record { name = name; given = g } ∷ [])
  added_after [] [] key k g s n h = (n, h, tt)
  added_after [] (t ∷ ts) key k g s n h = absurd s
  added_after (e ∷ es) [] key k g s n h = absurd s
  added_after (e ∷ es) (t ∷ ts) key k g s n h = (s.0, s.1, added_after es ts key k g s.2 n h)

pub as_many : {A : Type 0} (es : Entries A) (table : Table) → AreGiven (map named_channel es) table → length es ≡ length table
as_many [] [] s = refl
as_many [] (t ∷ ts) s = absurd s
as_many (e ∷ es) [] s = absurd s
as_many (e ∷ es) (t ∷ ts) s = ap (λ n. suc n) (as_many es ts s.2)
