-- Document 01, "Loops (Memorandum, part 3)": the loops.
-- Assumes nothing.
use Rattle.std.specs.Prelude.{ℕ, zero, suc, true, List, [], ◌∷◌}
use Rattle.network.specs.Standing.{Line}
use Rattle.network.specs.Tree.{tree, tree_lines}
use Rattle.network.specs.Closing.{closing}
use Rattle.network.specs.Path.{Pass, pass, shortest}
use Rattle.network.specs.Subgraph.{only, numbers}

-- A loop: the passes over its lines, the closing line first
abbrev pub Loop : Type 0
Loop = List Pass

-- "A closing line whose path has one line is not added; any other is." `sub` are the numbers of the subgraph's lines, `path` the path of
-- the closing line c
abbrev pub added : ℕ → List Pass → List ℕ → List ℕ
added c [] sub = c ∷ sub
added c (p ∷ []) sub = sub
added c (p ∷ q ∷ ps) sub = c ∷ sub

-- "Closing lines are taken in their order. A loop runs its closing line from its from end to its to end, then back by the shortest path in
-- the subgraph: the tree with the closing lines added so far."
unfoldable pub loops_from : ℕ → List Line → List Line → List ℕ → List Loop
unfolding only shortest
loops_from b lines [] sub = []
loops_from b lines (c ∷ cs) sub =
    let path = shortest b (only sub lines) c.to c.from in
    (pass c true ∷ path) ∷ loops_from b lines cs (added c.number path sub)

unfoldable pub loops : ℕ → List Line → List Loop
unfolding loops_from tree tree_lines closing
loops b lines =
    let t = tree b lines in
    loops_from b lines (closing lines t) (numbers (tree_lines t))

-- the loop at place i, counted from 0
unfoldable pub loop_at : List Loop → ℕ → Loop
loop_at [] i = []
loop_at (l ∷ ls) zero = l
loop_at (l ∷ ls) (suc i) = loop_at ls i
