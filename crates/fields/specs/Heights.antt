-- Heights are a list of whole micrometres, mark m at place m - 1.
-- Assumes nothing.
use Rattle.std.specs.Prelude.{ℕ, ◌-◌, ◌≤◌, List, get_or, set, length, ℤ, pos, nat_abs, ◌≡◌}
use Rattle.book.specs.Limits.{most_height}

-- the height of mark m
abbrev pub height : List ℤ → ℕ → ℤ
height hs m = get_or hs (m - 1) (pos 0)

-- the heights with that of mark m set to z
abbrev pub set_height : List ℤ → ℕ → ℤ → List ℤ
set_height hs m z = set hs (m - 1) z

-- The heights of b marks, each inside its limit for work
pub record Working (hs : List ℤ) (b : ℕ) : Type 0 where
  pub all : length hs ≡ b
  pub inside : (j : ℕ) → nat_abs (get_or hs j (pos 0)) ≤ most_height
