use Rattle.joins.proofs.Moves.{joined_in}
use Rattle.joins.proofs.merge.join.Goals as goal

pub returns : goal.returns
returns c = λ before x between y after at_i at_j up_to_lem h.
    joined_in before x between y after _ _ _ _ _ at_i at_j up_to_lem h c.requires.both _ _ _ _ _ _ _ c.first.ensures c.last.ensures
    c.count.ensures c.count-count.ensures c.lines-at.ensures c.lines-between.ensures c.new.ensures _ c.rotate_left.ensures.after
    _ c.rotate_left-2.ensures.after
