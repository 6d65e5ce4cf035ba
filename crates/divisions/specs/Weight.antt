-- Document 01, "Adjustment": weights.
-- Assumes nothing.
use Rattle.std.specs.Prelude.{ℕ, ◌+◌, ◌*◌, ◌/◌, ◌≤◌, ◌<◌}

-- "A line's weight is 1,000,000 divided by its length, rounded down"
unfoldable pub weight_of : ℕ → ℕ
weight_of length = 1000000 / length

-- What "rounded down" means: so many times the length is not over 1,000,000, and one time more is.
pub record RoundedDown (length weight : ℕ) : Type 0 where
  pub not_over : weight * length ≤ 1000000
  pub one_more : 1000000 < (weight + 1) * length

-- the weight of the shortest line
abbrev pub most_weight : ℕ
most_weight = 100000
