use Rattle.prepare.proofs.Drawing.{DrawingAt}
use Rattle.prepare.proofs.draw_book.Given as goal

abbrev pub invariant-loop-i : goal.invariant-loop-i
invariant-loop-i l = DrawingAt l.n l.lines l.i l.ends l.head l.next
