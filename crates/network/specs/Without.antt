-- The lines without a withdrawn one. Document 01: withdrawal sets "its standing to 0, and nothing else in the book changes".
-- Assumes nothing.
use Rattle.std.specs.Prelude.{ℕ, not, List, [], ◌∷◌, eqb}
use Rattle.network.specs.Standing.{Line}
use Rattle.network.specs.Subgraph.{keep_if}

-- the lines but for line x
unfoldable pub without : ℕ → List Line → List Line
without x [] = []
without x (l ∷ ls) = keep_if (not (eqb l.number x)) l (without x ls)
