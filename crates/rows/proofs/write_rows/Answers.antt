use Rattle.std.proofs.Common.{arith, refl, ◌∙◌}
use Rattle.loops.specs.Report.{report_of}
use Rattle.loops.specs.Row.{rows}
use Rattle.loops.proofs.Table.{run_rises, run_fits}
use Rattle.rows.proofs.Written.{written_next, written_end, run_in, run_row}
use Rattle.rows.proofs.write_rows.Goals as goal

pub loop-i-init : goal.loop-i-init
unfolding rows
loop-i-init c = refl

pub offset_bounds-runs-begin : goal.offset_bounds-runs-begin
offset_bounds-runs-begin c =
    let t = c.requires.table in
    let i = c.loop-i.i in
    omega (arith, run_rises t i (omega (arith, t.counted)), run_fits t i (omega (arith, t.counted)), c.well_formed)

pub slice_bounds-row_of-count : goal.slice_bounds-row_of-count
slice_bounds-row_of-count c = let t = c.requires.table in run_rises t c.loop-i.i (omega (arith, t.counted))

pub slice_bounds-row_of-start : goal.slice_bounds-row_of-start
slice_bounds-row_of-start c = let t = c.requires.table in run_rises t c.loop-i.i (omega (arith, t.counted))

pub slice_bounds-row_of-end : goal.slice_bounds-row_of-end
slice_bounds-row_of-end c = let t = c.requires.table in run_fits t c.loop-i.i (omega (arith, t.counted))

pub row_of-requires-clause-run : goal.row_of-requires-clause-run
row_of-requires-clause-run c = run_in _ _ c.requires.good c.requires.table c.loop-i.i (omega arith)

pub loop-i-preserved : goal.loop-i-preserved
loop-i-preserved c =
    let t = c.requires.table in
    let i = c.loop-i.i in
    written_next _ _ _ _ _ i (omega (arith, t.counted)) c.loop-i.invariant
    (c.row_of.ensures ∙ run_row _ _ c.requires.good t i (omega arith) _)

pub returns : goal.returns
unfolding report_of
returns c =
    written_end _ _ _ _ c.loop-i.i _ c.requires.table.counted (omega arith) c.loop-i.invariant
