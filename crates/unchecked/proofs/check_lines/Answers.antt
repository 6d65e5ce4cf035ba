use Rattle.std.proofs.Common.{arith}
use Rattle.unchecked.proofs.Checking.{start_so_far, next_so_far, all_so_far}
use Rattle.unchecked.proofs.check_lines.Goals as goal

pub loop-number-init : goal.loop-number-init
loop-number-init c = (omega arith, λ n order lines li ho. start_so_far li ho c.zero.ensures)

pub loop-number-preserved : goal.loop-number-preserved
loop-number-preserved c =
    let v = c.loop-number.invariant in
    (omega arith, λ n order lines li ho. next_so_far li ho (omega arith) (v.1 n order lines li ho) c.check_line.ensures.passed)

pub returns : goal.returns
returns c = λ n order lines li ho. all_so_far li ho (omega arith) (c.loop-number.invariant.1 n order lines li ho)
