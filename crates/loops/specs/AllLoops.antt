-- The loops with every closing line added, and what the loops are, as a plain statement.
-- Assumes nothing.
use Rattle.std.specs.Prelude.{ℕ, true, List, [], ◌∷◌}
use Rattle.network.specs.Standing.{Line}
use Rattle.network.specs.Tree.{tree, tree_lines}
use Rattle.network.specs.Closing.{closing}
use Rattle.network.specs.Walk.{Pass, pass, IsShortest}
use Rattle.network.specs.Path.{shortest}
use Rattle.network.specs.Subgraph.{only, numbers}
use Rattle.loops.specs.Loops.{Loop}

-- the loops, were every closing line added to the subgraph
unfoldable pub all_loops_from : ℕ → List Line → List Line → List ℕ → List Loop
unfolding only shortest
all_loops_from b lines [] sub = []
all_loops_from b lines (c ∷ cs) sub =
    (pass c true ∷ shortest b (only sub lines) c.to c.from) ∷ all_loops_from b lines cs (c.number ∷ sub)

unfoldable pub all_loops : ℕ → List Line → List Loop
unfolding all_loops_from tree tree_lines closing
all_loops b lines =
    let t = tree b lines in
    all_loops_from b lines (closing lines t) (numbers (tree_lines t))

-- ls are the loops of the closing lines cs, one to each and in their order: a loop runs its closing line forward, then the shortest path
-- back from its to end to its from end, over the lines with the numbers sub and all closing lines before it
pub data LoopsOf (lines : List Line) : List ℕ → List Line → List Loop → Type 0 where
  no_loop : {sub : List ℕ} → LoopsOf lines sub [] []
  loop_then : {sub : List ℕ} {c : Line} {cs : List Line} {path : List Pass} {ls : List Loop}
      → IsShortest (only sub lines) c.from c.to path
      → LoopsOf lines (c.number ∷ sub) cs ls → LoopsOf lines sub (c ∷ cs) ((pass c true ∷ path) ∷ ls)
