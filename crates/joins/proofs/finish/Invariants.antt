use Rattle.joins.proofs.Finishing.{AllLowered}
use Rattle.joins.proofs.finish.Given as goal

abbrev pub invariant-loop-i : goal.invariant-loop-i
invariant-loop-i l = AllLowered l.fn.counts.links l.fn.rows l.fn.runs l.i l.rows l.runs
