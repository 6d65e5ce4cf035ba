-- The first of a run of entries of which a test holds, by its number from 1; 0 where there is none.
-- Assumes nothing.
use Rattle.std.specs.Prelude.{Bool, false, ◌||◌, cond, ℕ, zero, suc}

-- of k entries from the one at place i
unfoldable pub first_from : (ℕ → Bool) → ℕ → ℕ → ℕ
first_from bad i zero = 0
first_from bad i (suc k) = cond (bad i) (suc i) (first_from bad (suc i) k)

-- of n entries
unfoldable pub first_bad : (ℕ → Bool) → ℕ → ℕ
first_bad bad n = first_from bad 0 n

-- whether a test holds of some place below n
unfoldable pub any_below : (ℕ → Bool) → ℕ → Bool
any_below p zero = false
any_below p (suc n) = any_below p n || p n
