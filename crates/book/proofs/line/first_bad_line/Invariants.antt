use Rattle.laws.proofs.Scans.{Scanned}
use Rattle.book.specs.Line.{line_bad}
use Rattle.book.proofs.line.first_bad_line.Given as goal

-- the lines before place i are good
abbrev pub invariant-loop-i : goal.invariant-loop-i
invariant-loop-i l = Scanned (line_bad l.version l.b l.lines) l.i-end l.i
