use Rattle.cases.proofs.Appended.{next_spaced, none_spaced}
use Rattle.cases.proofs.put_all.Goals as goal

pub loop-n-preserved : goal.loop-n-preserved
loop-n-preserved g c last rest =
    c.loop-n.invariant last (next_spaced _ _ _ _ last c.loop-n-test.true c.in_ok-put.ensures.bytes rest)

pub returns : goal.returns
returns g c = c.loop-n.invariant _ (none_spaced _ _ _ c.loop-n-test.false)
