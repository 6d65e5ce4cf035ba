-- The loop of `check_lines`: the lines with numbers below `number` are done. Assumes nothing.
use Rattle.std.proofs.Common.{ℕ, ◌-◌, ◌≤◌, length, List}
use Rattle.network.specs.Standing.{Line}
use Rattle.network.specs.Tree.{tree}
use Rattle.chains.specs.Chains.{number_limit}
use Rattle.chains.specs.Listed.{Listed}
use Rattle.tree.specs.Plant.{Holding}
use Rattle.unchecked.proofs.Checking.{SoFar}
use Rattle.unchecked.proofs.check_lines.Given as goal

abbrev pub invariant-loop-number : goal.invariant-loop-number
invariant-loop-number l =
    (number_limit ≤ length l.marked)
    × ((n : ℕ) (order : List ℕ) (lines : List Line) → Listed lines n l.q l.ends → Holding (tree (n - 1) lines) l.best order l.ends
    → SoFar n lines l.marked l.number)
