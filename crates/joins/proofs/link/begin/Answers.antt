use Rattle.joins.proofs.Moves.{begun_in}
use Rattle.joins.proofs.link.begin.Goals as goal

pub returns : goal.returns
returns c = λ before x after at_i h.
    begun_in before x after _ _ _ at_i h _ _ c.lines-at.ensures c.count-count.ensures _ c.begin_lowest.ensures
