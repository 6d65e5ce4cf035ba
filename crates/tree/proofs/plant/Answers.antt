use Rattle.std.proofs.Common.{arith}
use Rattle.tree.proofs.Planting.{plant_start, plant_end, sprouted_next, sprouted_high, sprouted_below, sprouted_stage, stage_clear}
use Rattle.tree.proofs.plant.Goals as goal

pub loop-k-init : goal.loop-k-init
loop-k-init c =
    let z = c.zero.ensures in
    let a = c.clear.ensures in
    let b = c.clear-2.ensures in (
      omega arith,
      omega arith,
      stage_clear _ _ _ c.requires.room.room.few (omega arith) (omega arith) (omega arith) a.1 (λ i h. b.1 i (omega arith)),
      λ k h. omega (arith, z k h),
      λ lines g. plant_start lines _ _ _ _ g _ _ _ a.1 (λ i h. b.1 i (omega arith)),
    )

pub loop-k-preserved : goal.loop-k-preserved
loop-k-preserved c =
    let v = c.loop-k.invariant in
    let e = c.sprout-root.ensures in (
      omega arith,
      sprouted_high _ _ _ _ _ _ _ _ _ _ _ _ _ v.1 e,
      sprouted_stage _ _ _ _ _ _ _ _ _ _ _ _ _ v.2 c.requires.bounded e,
      sprouted_below _ _ _ _ _ _ _ _ _ _ _ _ _ v.2 c.requires.bounded v.3 e,
      λ lines g. sprouted_next lines _ _ _ _ g _ _ _ _ _ v.2 (v.4 lines g) (omega arith) (omega arith) (omega arith) _ _ _ _ e,
    )

pub returns-clause-planted : goal.returns-clause-planted
returns-clause-planted c = λ lines g. plant_end lines _ _ _ _ g _ _ _ _ _ (c.loop-k.invariant.4 lines g) (omega arith)
