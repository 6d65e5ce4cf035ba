-- One loop for each line beyond a tree: loops = lines - marks + pieces. Assumes nothing.
use Prim.Native.Nat.{ℕ, suc, ◌+◌}
use native.Mathlib.Omega.{arith}
use mathlib.Core.Path.{◌≡◌, refl, ap}
use mathlib.Core.List.{List, [], ◌∷◌, Memᴰ}
use lib.ListN.{length}
use Rattle.network.specs.Standing.{Line}
use Rattle.network.specs.Tree.{tree, tree_lines, pieces}
use Rattle.network.specs.Closing.{closing}
use Rattle.network.specs.Subgraph.{numbers}
use Rattle.network.specs.Sound.{Rising, Placed, Apart}
use Rattle.network.proofs.Count.{closing_count}
use Rattle.loops.specs.Loops.{loops, loops_from}

module _ (b : ℕ) (lines : List Line) (placed : (l : Line) → Memᴰ l lines → Placed b l) (rising : Rising lines) (apart : Apart lines)
  where
    -- each closing line has one loop
    pub each_loop : (cs : List Line) (sub : List ℕ) → length (loops_from b lines cs sub) ≡ length cs
    unfolding loops_from
    each_loop [] sub = refl
    each_loop (c ∷ cs) sub = ap suc (each_loop cs _)

    pub loops_count : length (loops b lines) + b ≡ length lines + pieces (tree b lines)
    unfolding loops
    loops_count =
        omega (
          arith,
          each_loop (closing lines (tree b lines)) (numbers (tree_lines (tree b lines))),
          closing_count b lines placed rising
              apart,
        )
