-- A list that is halved.
use Rattle.std.proofs.Common.{◌≡◌, ℕ, zero, suc, ◌-◌, ◌/◌, ◌^◌, ◌≤◌, arith}

-- the half of what is at most 2 ^ halvings, and the rest of it, need one halving less
pub record Halved (n left : ℕ) : Type 0 where
  pub front : n / 2 ≤ 2 ^ left
  pub back : n - n / 2 ≤ 2 ^ left

pub is_halved : (n halvings left : ℕ) → left ≡ halvings - 1 → 2 ≤ n → n ≤ 2 ^ halvings → (1 ≤ halvings) × Halved n left
is_halved n zero left is two most = absurd (omega arith)
is_halved n (suc k) left is two most = grind arith
