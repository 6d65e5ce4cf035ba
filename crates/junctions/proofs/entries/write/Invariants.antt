use Rattle.junctions.proofs.Writing.{AllWrote}
use Rattle.junctions.proofs.entries.write.Given as goal

abbrev pub invariant-loop-i : goal.invariant-loop-i
invariant-loop-i l = AllWrote l.lines l.rows l.runs l.i l.at l.fn.out l.out
