-- A whole number in a range of natural numbers.
-- Assumes nothing.
use Rattle.std.specs.Prelude.{◌≡◌, ℕ, ◌≤◌, ℤ, pos, nat_abs}

-- z is a natural number, at least lo and at most hi
pub record Between (lo hi : ℕ) (z : ℤ) : Type 0 where
  pub is : z ≡ pos (nat_abs z)
  pub low : lo ≤ nat_abs z
  pub high : nat_abs z ≤ hi
