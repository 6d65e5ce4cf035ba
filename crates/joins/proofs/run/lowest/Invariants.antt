use Rattle.joins.proofs.Lowest.{LowestTo}
use Rattle.joins.proofs.run.lowest.Given as goal

abbrev pub invariant-loop-i : goal.invariant-loop-i
invariant-loop-i l = LowestTo l.run l.k l.i
