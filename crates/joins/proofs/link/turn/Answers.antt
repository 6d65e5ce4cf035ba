use Rattle.joins.proofs.Moves.{turned_in}
use Rattle.joins.proofs.link.turn.Goals as goal

pub returns : goal.returns
returns c = λ before x after at_i h.
    turned_in before x after _ _ _ at_i h _ _ _ _ _ c.last.ensures c.first.ensures c.lines-at.ensures c.count-count.ensures c.new.ensures
    _ c.turn.ensures
