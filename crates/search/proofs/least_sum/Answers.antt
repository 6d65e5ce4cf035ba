use Rattle.std.proofs.Common.{arith}
use Rattle.chains.proofs.Halves.{chain_rest, steps_fall}
use Rattle.search.proofs.Direct.{least_turn, least_end}
use Rattle.search.proofs.least_sum.Goals as goal

pub loop-h-smaller : goal.loop-h-smaller
loop-h-smaller c = steps_fall c.loop-h.invariant.0.1 (omega arith)

pub loop-h-preserved : goal.loop-h-preserved
loop-h-preserved c = (
  chain_rest c.loop-h.invariant.0.1 (omega arith),
  least_turn _ _ _ _ _ _ c.loop-h.invariant.1 (omega arith) c.lesser-s.ensures,
)

pub returns : goal.returns
returns c = least_end _ _ _ _ _ c.loop-h.invariant.1 (omega arith)
