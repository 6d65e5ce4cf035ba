use Rattle.std.proofs.Common.{arith}
use Rattle.loops.specs.Report.{loops_of}
use Rattle.loops.proofs.Table.{run_rises, run_fits}
use Rattle.rows.proofs.Written.{run_in}
use Rattle.page.proofs.Lines.{lines_put_start, lines_put_next, lines_put_end}
use Rattle.page.proofs.loop_lines.put_loops.Goals as goal

pub loop-i-init : goal.loop-i-init
loop-i-init c = lines_put_start _ (loops_of c.args.book.marks c.args.lines.now) _ _

pub offset_bounds-runs-begin : goal.offset_bounds-runs-begin
offset_bounds-runs-begin c =
    let t = c.requires.table in
    let i = c.loop-i.i in
    omega (arith, run_rises t i (omega (arith, t.counted)), run_fits t i (omega (arith, t.counted)), c.well_formed)

pub slice_bounds-put_loop-count : goal.slice_bounds-put_loop-count
slice_bounds-put_loop-count c = let t = c.requires.table in run_rises t c.loop-i.i (omega (arith, t.counted))

pub slice_bounds-put_loop-start : goal.slice_bounds-put_loop-start
slice_bounds-put_loop-start c = let t = c.requires.table in run_rises t c.loop-i.i (omega (arith, t.counted))

pub slice_bounds-put_loop-end : goal.slice_bounds-put_loop-end
slice_bounds-put_loop-end c = let t = c.requires.table in run_fits t c.loop-i.i (omega (arith, t.counted))

pub put_loop-after-requires-clause-in_book : goal.put_loop-after-requires-clause-in_book
put_loop-after-requires-clause-in_book c = run_in _ _ c.requires.good c.requires.table c.loop-i.i (omega arith)

pub loop-i-preserved : goal.loop-i-preserved
loop-i-preserved c =
    lines_put_next _ c.requires.good c.requires.table (omega arith) c.loop-i.invariant c.put_loop-after.ensures

pub returns : goal.returns
returns c = lines_put_end _ _ (omega (arith, c.requires.table.counted)) c.loop-i.invariant
