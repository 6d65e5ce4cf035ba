use Rattle.loops.specs.Report.{loops_of}
use Rattle.page.proofs.Lines.{LinesPut}
use Rattle.page.proofs.loop_lines.put_loops.Given as goal

-- the lines of the loops before this one are put
abbrev pub invariant-loop-i : goal.invariant-loop-i
invariant-loop-i l = LinesPut l.t (loops_of l.fn.book.marks l.lines) l.initial.out l.initial.after l.out l.after l.i
