-- Which lines the loops check.
-- Assumes nothing.
use Rattle.std.specs.Prelude.{ℕ, Bool, false, ◌||◌, cond, List, [], ◌∷◌, eqb}
use Rattle.network.specs.Standing.{Line}
use Rattle.loops.specs.Loops.{Loop}

-- line n is run in the loop; in one of the loops
unfoldable pub runs : ℕ → Loop → Bool
runs n [] = false
runs n (p ∷ ps) = eqb p.line.number n || runs n ps

unfoldable pub checked : ℕ → List Loop → Bool
unfolding runs
checked n [] = false
checked n (l ∷ ls) = runs n l || checked n ls

-- "The not-checked list goes by rising line number." What it means by circuits: proofs/Checked.antt
unfoldable pub not_checked : List Loop → List Line → List ℕ
unfolding checked
not_checked ls [] = []
not_checked ls (l ∷ rest) = cond (checked l.number ls) (not_checked ls rest) (l.number ∷ not_checked ls rest)
