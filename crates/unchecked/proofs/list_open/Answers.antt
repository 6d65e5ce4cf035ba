use Rattle.std.proofs.Common.{arith, sym, ◌∙◌}
use Rattle.unchecked.proofs.Listing.{writing_open, writing_shut, writing_end}
use Rattle.unchecked.proofs.list_open.Goals as goal
use Rattle.unchecked.proofs.list_open.Goals.{then-is_open, else-is_open}

pub loop-number-preserved : goal.loop-number-preserved
loop-number-preserved c =
    let v = c.loop-number.invariant in
    let o = c.is_open.ensures in
    elim c.if-is_open.branch [
      | then-is_open w ↦
          (omega (arith, w.c-is), writing_open v.1 (omega arith) (sym o ∙ w.if-is_open.true) w.out-is w.c-is)
      | else-is_open w ↦
          (omega (arith, w.c-is), writing_shut v.1 (omega arith) (sym o ∙ w.if-is_open.false) w.out-is w.c-is)
    ]

pub returns : goal.returns
returns c = writing_end c.loop-number.invariant.1 (omega arith)
