-- Document 01, "Adjustment": "the weighted sum of squared residuals", over the standing lines.
-- Assumes nothing.
use Rattle.std.specs.Prelude.{ℕ, ◌+◌, ◌*◌, List, [], ◌∷◌, ℤ, nat_abs, ◌+ℤ◌, ◌-ℤ◌}
use Rattle.network.specs.Standing.{Line}
use Rattle.fields.specs.Heights.{height, set_height}
use Rattle.divisions.specs.Weight.{weight_of}

-- "adjusted minus observed difference": a line's residual, its correction
abbrev pub residual : List ℤ → Line → ℤ
residual hs l = height hs l.to -ℤ height hs l.from -ℤ l.difference

unfoldable pub squares : List Line → List ℤ → ℕ
unfolding weight_of
squares [] hs = 0
squares (l ∷ ls) hs = weight_of l.length * (nat_abs (residual hs l) * nat_abs (residual hs l)) + squares ls hs

-- the heights with mark m moved by d
abbrev pub move_mark : List ℤ → ℕ → ℤ → List ℤ
move_mark hs m d = set_height hs m (height hs m +ℤ d)
