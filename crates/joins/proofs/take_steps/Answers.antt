use Rattle.std.proofs.Common.{refl, arith}
use Rattle.joins.proofs.Ending.{going_start, going_next, going_end, stage_in, room_of, stage_same, stepped_same}
use Rattle.joins.proofs.take_steps.Goals as goal

pub loop-next-init : goal.loop-next-init
loop-next-init c = going_start _ _ _ _

pub step-requires-clause-room : goal.step-requires-clause-room
step-requires-clause-room c = room_of (stage_in c.loop-next.invariant c.requires.stage).tabled (omega arith)

pub step-requires-clause-stage : goal.step-requires-clause-stage
step-requires-clause-stage c = stage_same c.loop-next.auto.ends (stage_in c.loop-next.invariant c.requires.stage)

pub loop-next-preserved : goal.loop-next-preserved
loop-next-preserved c =
    going_next c.loop-next.invariant _ _ _ (stepped_same c.loop-next.auto.ends _ _ _ _ _ _ c.in-Some.ensures.stepped)
    c.in-Some.ensures.fewer

pub returns : goal.returns
returns c = going_end c.loop-next.invariant _ _ _ (stepped_same c.loop-next.auto.ends _ _ _ _ _ _ c.in_default.ensures.stepped) refl
