use Rattle.std.proofs.Common.{rules}
use Rattle.joins.proofs.Counted.{counted_start, counted_next, counted_end, first_few, last_few}
use Rattle.joins.proofs.ends.count.Goals as goal

pub loop-row-init : goal.loop-row-init
loop-row-init c = counted_start _ _ _ c.fill.ensures.len (λ m h. search rules)

pub one_more-requires-clause-few : goal.one_more-requires-clause-few
one_more-requires-clause-few c =
    first_few _ _ _ _ c.requires.few c.requires.among c.loop-row-test.true c.loop-row.invariant _ c.first.ensures

pub one_more-requires-in-loop-row-clause-few : goal.one_more-requires-in-loop-row-clause-few
one_more-requires-in-loop-row-clause-few c =
    last_few _ _ _ _ c.requires.few c.requires.among c.loop-row-test.true c.loop-row.invariant _ c.first.ensures
    _ c.one_more.ensures _ c.last.ensures

pub loop-row-preserved : goal.loop-row-preserved
loop-row-preserved c =
    counted_next _ _ _ _ c.requires.few c.requires.among c.loop-row-test.true c.loop-row.invariant _ c.first.ensures
    _ c.one_more.ensures _ c.last.ensures _ c.one_more-in-loop-row.ensures

pub returns : goal.returns
returns c = counted_end _ _ _ _ c.loop-row-test.false c.loop-row.invariant
