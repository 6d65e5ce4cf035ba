use Rattle.std.proofs.Common.{refl, arith}
use Rattle.joins.proofs.Finishing.{lowered_start, lowered_next, lowered_end, lower_asked}
use Rattle.joins.proofs.finish.Goals as goal

pub loop-i-init : goal.loop-i-init
loop-i-init c = lowered_start _ _ _

pub lower_first-requires : goal.lower_first-requires
lower_first-requires c = lower_asked c.loop-i.invariant c.loop-i-test.true _ refl c.requires.sketch (omega arith)

pub loop-i-preserved : goal.loop-i-preserved
loop-i-preserved c = lowered_next c.loop-i.invariant c.loop-i-test.true _ _ c.lower_first.ensures

pub returns : goal.returns
returns c = lowered_end c.args.counts c.loop-i.invariant c.loop-i-test.false
