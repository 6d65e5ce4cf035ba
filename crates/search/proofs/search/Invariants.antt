use Rattle.std.proofs.Common.{◌<◌, List}
use Rattle.network.specs.Standing.{Line}
use Rattle.chains.specs.Chains.{Given}
use Rattle.search.specs.Front.{Stage}
use Rattle.search.proofs.Searched.{Searching}
use Rattle.search.proofs.search.Given as goal

abbrev pub invariant-loop : goal.invariant-loop
invariant-loop l = (0 < l.counter) × (l.counter < l.n) × Stage l.n l.best l.seg
    × ((sub : List Line) (g : Given sub l.n l.head l.next l.ends)
    → Searching sub l.n l.head l.next l.ends g l.r l.to l.counter l.best l.seg)
