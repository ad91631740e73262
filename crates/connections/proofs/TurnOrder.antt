-- The order of the channels' turns.
use Rattle.std.proofs.Common.{◌≡◌, ℕ, zero, suc, ◌+◌, ◌<◌, ◌≤◌, ◌==◌, Bool, true, false, List, [], ◌∷◌, ◌++◌, length, refl, arith}
use Rattle.std.specs.Prelude.{if◌then◌else◌}
use Rattle.connections.specs.Lines.{had_turn}
use Rattle.connections.specs.Seats.{places_below}

-- how often a channel is there
abbrev pub occurs : ℕ → List ℕ → ℕ
occurs channel [] = 0
occurs channel (one ∷ later) = if one == channel then occurs channel later + 1 else occurs channel later

-- of two channels this one comes first
abbrev pub is_before : ℕ → ℕ → List ℕ → Bool
is_before channel other [] = false
is_before channel other (one ∷ later) = if one == channel then true else (if one == other then false else is_before channel other later)

-- ---- each channel has its turn, once

none_below : (channel n : ℕ) → n ≤ channel → occurs channel (places_below n) ≡ 0
unfolding places_below
none_below channel zero h = refl
none_below channel (suc n) h = grind (arith, none_below channel n)

pub once_below : (channel n : ℕ) → occurs channel (places_below n) ≤ 1
unfolding places_below
once_below channel zero = omega arith
once_below channel (suc n) = grind (arith, none_below channel n, once_below channel n)

pub there_below : (channel n : ℕ) → channel < n → 1 ≤ occurs channel (places_below n)
unfolding places_below
there_below channel zero h = omega arith
there_below channel (suc n) h = grind (arith, there_below channel n)

pub as_many_below : (n : ℕ) → length (places_below n) ≡ n
unfolding places_below
as_many_below zero = refl
as_many_below (suc n) = grind (arith, as_many_below n)

-- ---- a turn

occurs_at_end : (channel x : ℕ) (turns : List ℕ) → occurs channel (turns ++ x ∷ []) ≡ occurs channel (x ∷ turns)
occurs_at_end channel x [] = refl
occurs_at_end channel x (one ∷ later) = grind (arith, occurs_at_end channel x later)

pub occurs_after_turn : (channel x : ℕ) (turns : List ℕ) → occurs channel (had_turn x turns) ≡ occurs channel turns
occurs_after_turn channel x [] = refl
occurs_after_turn channel x (one ∷ later) = grind (arith, occurs_at_end channel one later, occurs_after_turn channel x later)

one_more_at_end : (x : ℕ) (turns : List ℕ) → length (turns ++ x ∷ []) ≡ length turns + 1
one_more_at_end x [] = refl
one_more_at_end x (one ∷ later) = grind (arith, one_more_at_end x later)

pub as_many_after_turn : (x : ℕ) (turns : List ℕ) → length (had_turn x turns) ≡ length turns
as_many_after_turn x [] = refl
as_many_after_turn x (one ∷ later) = grind (arith, one_more_at_end one later, as_many_after_turn x later)

before_end : (a b x : ℕ) (turns : List ℕ) → (x == a) ≡ false → is_before a b (turns ++ x ∷ []) ≡ is_before a b turns
before_end a b x [] other = grind arith
before_end a b x (one ∷ later) other = grind (arith, before_end a b x later other)

-- another channel's turn changes nothing between two
pub same_order : (a b x : ℕ) (turns : List ℕ) → (x == a) ≡ false → (x == b) ≡ false → is_before a b (had_turn x turns) ≡ is_before a b turns
same_order a b x [] p q = refl
same_order a b x (one ∷ later) p q = grind (arith, before_end a b one later, same_order a b x later p q)

-- a channel that isn't there comes after each that is
before_missing : (a b x : ℕ) (turns : List ℕ) → occurs b turns ≡ 0 → 1 ≤ occurs a turns → is_before a b (turns ++ x ∷ []) ≡ true
before_missing a b x [] none some = absurd (omega arith)
before_missing a b x (one ∷ later) none some = grind (arith, before_missing a b x later)

-- who had its turn comes after the others
pub after_turn : (a b : ℕ) (turns : List ℕ) → (b == a) ≡ false → occurs b turns ≤ 1 → 1 ≤ occurs b turns → 1 ≤ occurs a turns → is_before a b (had_turn b turns) ≡ true
after_turn a b [] other most least some = absurd (omega arith)
after_turn a b (one ∷ later) other most least some = grind (arith, before_missing a b one later, after_turn a b later other)
