-- Sums over rows. Assumes nothing.
use Prim.Native.Nat.{ℕ}
use mathlib.Core.Path.{◌≡◌, refl}
use mathlib.Core.List.{List}
use Rattle.std.specs.List.{sum_by}
use Rattle.std.proofs.lemmas.List.Recursion.{is_sum_by}
use Rattle.joins.specs.Row.{count_of, row_lines}

-- the lines of rows in all are the sum of their counts
pub lines_sum : (rows : List ℕ) → row_lines rows ≡ sum_by (λ row. count_of row) rows
unfolding row_lines
lines_sum = is_sum_by row_lines (λ row. count_of row) refl (λ row rows. refl)
