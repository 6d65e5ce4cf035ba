use Rattle.std.proofs.Common.{arith}
use Rattle.joins.proofs.Whole.{ends_for, start_in, left_in, left_enough, sketched}
use Rattle.joins.proofs.sketch_in.Goals as goal

pub take_steps-left-requires-clause-stage : goal.take_steps-left-requires-clause-stage
take_steps-left-requires-clause-stage c =
    start_in _ _ c.requires.good c.own_links-begun.ensures _ (ends_for _ _ c.requires.good _ c.requires.ends_fit)

pub finish-requires-clause-room : goal.finish-requires-clause-room
finish-requires-clause-room c =
    left_enough _ _ c.requires.good c.own_links-begun.ensures _ (ends_for _ _ c.requires.good _ c.requires.ends_fit) _ _ _
    c.take_steps-left.ensures (omega arith)

pub finish-requires-clause-sketch : goal.finish-requires-clause-sketch
finish-requires-clause-sketch c =
    left_in _ _ c.requires.good c.own_links-begun.ensures _ (ends_for _ _ c.requires.good _ c.requires.ends_fit) _ _ _
    c.take_steps-left.ensures

pub returns : goal.returns
returns c =
    sketched _ _ c.requires.good c.own_links-begun.ensures _ (ends_for _ _ c.requires.good _ c.requires.ends_fit) _ _ _
    c.take_steps-left.ensures _ _ c.finish.ensures
