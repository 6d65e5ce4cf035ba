use Rattle.std.proofs.Common.{arith}
use Rattle.chains.proofs.Halves.{chain_low, chain_rest, steps_fall}
use Rattle.search.proofs.Relaxing.{relax_turn, relax_end}
use Rattle.search.proofs.relax.Goals as goal

pub loop-h-smaller : goal.loop-h-smaller
loop-h-smaller c = steps_fall c.loop-h.invariant.0.1 (omega arith)

pub loop-h-preserved : goal.loop-h-preserved
loop-h-preserved c =
    let v = c.loop-h.invariant in (
      chain_rest v.0.1 (omega arith),
      relax_turn _ _ _ _ _ _ _ _ _ _ _ _ v.1 (omega arith) (c.requires.bounded.mark_ok c.loop-h.h (chain_low v.0.1)) c.offer.ensures,
    )

pub returns : goal.returns
returns c = relax_end _ _ _ _ _ _ _ _ _ _ c.loop-h.invariant.1 (omega arith)
