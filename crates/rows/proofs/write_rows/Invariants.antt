use Rattle.loops.specs.Report.{loops_of}
use Rattle.rows.proofs.Written.{Written}
use Rattle.rows.proofs.write_rows.Given as goal

-- the rows of the loops before this one are written
abbrev pub invariant-loop-i : goal.invariant-loop-i
invariant-loop-i l = Written l.t (loops_of l.fn.book.marks l.lines) l.initial.out l.out l.i
