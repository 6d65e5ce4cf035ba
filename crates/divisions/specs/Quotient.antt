-- Document 02, request 02: "by shift and subtract". Assumes nothing.
use Rattle.std.specs.Prelude.{ℕ, ◌+◌, ◌*◌, ◌^◌, ◌<◌, ◌≡◌}

-- a divided by d: so many times d, and a remainder less than d. There is only one quotient, a / d, and one remainder, a % d.
pub record Quotient (a d quotient remainder : ℕ) : Type 0 where
  pub whole : a ≡ quotient * d + remainder
  pub less : remainder < d

-- what was divided by k times d, from the quotient and the remainder
abbrev pub whole_of : (k d quotient remainder : ℕ) → ℕ
whole_of k d quotient remainder = quotient * (k * d) + remainder

-- a number below 2 ^ 63 was divided by k times d: the bits that come next are those of the division by d
pub record Coarse (k d quotient remainder : ℕ) : Type 0 where
  pub some : 0 < d
  pub less : remainder < k * d
  pub fits : whole_of k d quotient remainder < 2 ^ 63
