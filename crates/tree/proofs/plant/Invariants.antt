use Rattle.std.proofs.Common.{◌≤◌, ◌<◌, List}
use Rattle.network.specs.Standing.{Line}
use Rattle.chains.specs.Chains.{Given}
use Rattle.search.specs.Front.{Stage}
use Rattle.tree.specs.Plant.{Below}
use Rattle.tree.proofs.Planting.{Planting}
use Rattle.tree.proofs.plant.Given as goal

abbrev pub invariant-loop-k : goal.invariant-loop-k
invariant-loop-k l = (l.k < l.n) × (l.root ≤ l.n) × Stage l.n l.best l.seg × Below l.n l.order
    × ((lines : List Line) (g : Given lines l.n l.head l.next l.ends)
    → Planting lines l.n l.head l.next l.ends g l.k l.best l.seg l.order l.root)
