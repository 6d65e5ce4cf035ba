use Rattle.joins.proofs.Lowest.{lowest_start, lowest_lower, lowest_not, lowest_end}
use Rattle.joins.proofs.run.lowest.Goals as goal
use Rattle.joins.proofs.run.lowest.Goals.{then-code-run, else-code-run}

pub loop-i-init : goal.loop-i-init
loop-i-init c = lowest_start _ c.requires

pub loop-i-preserved : goal.loop-i-preserved
loop-i-preserved c = elim c.if-code-run.branch [
  | then-code-run w ↦ rw w.k-is (lowest_lower _ _ _ c.loop-i-test.true c.loop-i.invariant w.if-code-run.true)
  | else-code-run w ↦ rw w.k-is (lowest_not _ _ _ c.loop-i-test.true c.loop-i.invariant w.if-code-run.false)
]

pub returns : goal.returns
returns c = lowest_end _ _ _ c.loop-i-test.false c.loop-i.invariant
