use Rattle.std.proofs.Common.{ℕ, ◌-◌, ◌≤◌, List}
use Rattle.network.specs.Standing.{Line}
use Rattle.network.specs.Tree.{tree}
use Rattle.chains.specs.Listed.{Listed}
use Rattle.tree.specs.Plant.{Holding}
use Rattle.subgraph.proofs.Laying.{LayingAt}
use Rattle.subgraph.proofs.lay_tree.Given as goal

abbrev pub invariant-loop-mark : goal.invariant-loop-mark
invariant-loop-mark l = (l.count ≤ l.mark-index)
    × ((q : ℕ) (lines : List Line) (li : Listed lines l.n q l.ends) (ho : Holding (tree (l.n - 1) lines) l.best l.order l.ends)
    → LayingAt l.n q l.ends lines li l.best l.order ho l.mark-index l.count l.head l.next)
