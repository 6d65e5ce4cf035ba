use Rattle.std.proofs.Common.{◌-◌, length}
use Rattle.joins.proofs.Ending.{AllGoing}
use Rattle.joins.proofs.take_steps.Given as goal

abbrev pub invariant-loop-next : goal.invariant-loop-next
invariant-loop-next l = AllGoing (length l.fn.ends - 1) l.fn.rows l.fn.runs l.fn.begun l.rows l.runs l.counts

abbrev pub decreases-loop-next : goal.decreases-loop-next
decreases-loop-next l = l.counts.links
