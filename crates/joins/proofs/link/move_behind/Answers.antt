use Rattle.joins.proofs.Moves.{behind_in}
use Rattle.joins.proofs.link.move_behind.Goals as goal

pub returns : goal.returns
returns c = λ before x after later at_i up_to_lem h.
    behind_in before x after later _ _ _ _ at_i up_to_lem h _ _ _ c.lines-at.ensures c.count-count.ensures c.lines.ensures
    _ c.rotate_left.ensures.after _ c.rotate_left-2.ensures.after
