use Rattle.joins.proofs.Begun.{begun_forward, begun_back}
use Rattle.joins.proofs.run.begin_lowest.Goals as goal

pub returns-then-run-k-eq0 : goal.returns-then-run-k-eq0
returns-then-run-k-eq0 c = λ w e.
    begun_forward c.lowest-k.ensures w e c.if-run-k-eq0.true _ c.rotate_left.ensures.after

pub returns-else-run-k-eq0 : goal.returns-else-run-k-eq0
returns-else-run-k-eq0 c = λ w e.
    begun_back c.lowest-k.ensures w e c.if-run-k-eq0.false _ c.turn.ensures _ c.rotate_left-else-run-k-eq0.ensures.after
