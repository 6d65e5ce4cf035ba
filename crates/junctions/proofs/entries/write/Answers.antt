use Rattle.std.proofs.Common.{◌+◌, ◌≤◌, length, refl, arith}
use Rattle.junctions.proofs.Writing.{wrote_start, wrote_next, wrote_end, turn_ends, turn_lines, turn_marks}
use Rattle.junctions.proofs.entries.write.Goals as goal

-- the run of the link whose turn it is ends inside the runs
ends : (c : goal.After-count) → c.loop-i.at + c.count.result ≤ length c.args.runs.now
ends c = turn_ends c.loop-i.invariant c.loop-i-test.true c.requires.some_links _ c.count.ensures

pub loop-i-init : goal.loop-i-init
loop-i-init c = wrote_start _ _ _ _

pub overflow_add-to : goal.overflow_add-to
overflow_add-to c = omega (arith, ends c, c.well_formed)

pub offset_bounds-runs-at : goal.offset_bounds-runs-at
offset_bounds-runs-at c = omega (arith, ends c, c.well_formed)

pub slice_bounds-write_entry-end : goal.slice_bounds-write_entry-end
slice_bounds-write_entry-end c = ends c

pub write_entry-requires-clause-lines_in : goal.write_entry-requires-clause-lines_in
write_entry-requires-clause-lines_in c =
    turn_lines c.loop-i.invariant c.loop-i-test.true c.requires.some_links _ _ c.count.ensures refl

pub write_entry-requires-clause-first_fits : goal.write_entry-requires-clause-first_fits
write_entry-requires-clause-first_fits c = (turn_marks c.loop-i.invariant c.loop-i-test.true c.requires.some_links).0

pub loop-i-preserved : goal.loop-i-preserved
loop-i-preserved c = wrote_next c.loop-i.invariant c.loop-i-test.true _ _ c.count.ensures refl _ c.write_entry.ensures

pub returns : goal.returns
returns c = wrote_end c.loop-i.invariant c.loop-i-test.false
