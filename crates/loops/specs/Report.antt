-- The loops, the report and the pieces of a lent book of b marks.
-- Assumes nothing.
use Rattle.std.specs.Prelude.{ℕ, List, ℤ}
use Rattle.network.specs.Standing.{standing}
use Rattle.network.specs.Tree.{tree, pieces}
use Rattle.loops.specs.Loops.{Loop, loops}
use Rattle.loops.specs.Row.{rows}

unfoldable pub loops_of : ℕ → List ℤ → List Loop
unfolding loops standing
loops_of b lines = loops b (standing lines)

-- "The kept report is the rows"
unfoldable pub report_of : ℕ → ℕ → List ℤ → List ℤ
unfolding rows loops_of
report_of b t lines = rows t (loops_of b lines)

unfoldable pub pieces_of : ℕ → List ℤ → ℕ
unfolding pieces tree standing
pieces_of b lines = pieces (tree b (standing lines))
