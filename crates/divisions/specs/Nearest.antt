-- Document 01, "Adjustment": "the mark moves by g/D to the nearest whole number, halves toward zero".
-- Assumes nothing.
use Rattle.std.specs.Prelude.{ℕ, suc, ◌+◌, ◌*◌, ◌/◌, ◌%◌, ◌≤◌, ◌<◌, cond, ltb, ℤ, pos, negsuc, neg_ℤ}

-- a / d for a natural number a, by the remainder: up only where the remainder is more than half of d
unfoldable pub nearest_size : ℕ → ℕ → ℕ
nearest_size a d = cond (ltb d (2 * (a % d))) (suc (a / d)) (a / d)

-- g / d, of either sign
unfoldable pub nearest : ℤ → ℕ → ℤ
unfolding nearest_size
nearest (pos a) d = pos (nearest_size a d)
nearest (negsuc a) d = neg_ℤ (pos (nearest_size (suc a) d))

-- What "nearest, halves toward zero" means of sizes: q * d differs from a by less than half of d, or by just half and lies below a.
pub record Nearest (a d q : ℕ) : Type 0 where
  pub above : 2 * a ≤ 2 * (q * d) + d
  pub below : 2 * (q * d) < 2 * a + d
