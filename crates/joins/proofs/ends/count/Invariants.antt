use Rattle.std.proofs.Common.{length}
use Rattle.joins.proofs.Counted.{CountedTo}
use Rattle.joins.proofs.ends.count.Given as goal

abbrev pub invariant-loop-row : goal.invariant-loop-row
invariant-loop-row l = CountedTo l.rows (length l.fn.ends) l.ends l.row-index
