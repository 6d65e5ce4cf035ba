use Rattle.std.proofs.Common.{arith}
use Rattle.joins.proofs.Stepping.{marks_between, spur_in, spur_done, loop_in, loop_done, two_in, merge_done, none_done}
use Rattle.joins.proofs.step.step.Goals as goal

pub count-requires-clause-among : goal.count-requires-clause-among
count-requires-clause-among c = let e = c.requires.stage in marks_between e.stage e.tabled _ (omega arith)

pub spur-requires-clause-some_end : goal.spur-requires-clause-some_end
spur-requires-clause-some_end c =
    let e = c.requires.stage in
    spur_in e.stage e.tabled (omega arith) _ c.count.auto.ends c.count.ensures _ c.lowest_with.ensures _ c.in-Some.is

pub returns-in-Some-clause-stepped : goal.returns-in-Some-clause-stepped
returns-in-Some-clause-stepped c = λ lines s st t.
    spur_done st t (omega arith) _ c.count.auto.ends c.count.ensures _ c.lowest_with.ensures _ c.in-Some.is _ _ _ c.spur.ensures.taken

pub closed-requires-clause-closes : goal.closed-requires-clause-closes
closed-requires-clause-closes c =
    let e = c.requires.stage in
    loop_in e.stage e.tabled (omega arith) _ c.count.auto.ends c.count.ensures _ c.lowest_with.ensures c.in_default.is
    _ c.closed_link.ensures _ c.in-Some-closed_link.is

pub returns-in-Some-closed_link-clause-stepped : goal.returns-in-Some-closed_link-clause-stepped
returns-in-Some-closed_link-clause-stepped c = λ lines s st t.
    loop_done st t (omega arith) _ c.count.auto.ends c.count.ensures _ c.lowest_with.ensures c.in_default.is
    _ c.closed_link.ensures _ c.in-Some-closed_link.is _ _ _ c.closed.ensures.taken

pub returns-in_err-mark-clause-stepped : goal.returns-in_err-mark-clause-stepped
returns-in_err-mark-clause-stepped c = λ lines s st t.
    rw c.from_residual.ensures (none_done st t (omega arith) _ c.count.auto.ends c.count.ensures _ c.lowest_with.ensures c.in_default.is
    _ c.closed_link.ensures c.in_default-closed_link.is _ c.lowest_with-2.ensures c.in_err-mark.was)

pub at-requires-clause-two : goal.at-requires-clause-two
at-requires-clause-two c =
    let e = c.requires.stage in
    two_in e.stage e.tabled (omega arith) _ c.count.auto.ends c.count.ensures _ c.lowest_with.ensures c.in_default.is
    _ c.closed_link.ensures c.in_default-closed_link.is
    _ c.lowest_with-2.ensures _ c.in_ok-mark.was

pub returns-clause-stepped : goal.returns-clause-stepped
returns-clause-stepped c = λ lines s st t.
    merge_done st t (omega arith) _ c.count.auto.ends c.count.ensures _ c.lowest_with.ensures c.in_default.is
    _ c.closed_link.ensures c.in_default-closed_link.is
    _ c.lowest_with-2.ensures _ c.in_ok-mark.was _ _ _ c.at.ensures.merged
