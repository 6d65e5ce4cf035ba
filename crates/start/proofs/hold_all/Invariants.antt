use Rattle.book.specs.Limits.{most_held_height}
use Rattle.start.specs.Along.{Given, held_from}
use Rattle.start.proofs.hold_all.Given as goal

abbrev pub invariant-loop-i : goal.invariant-loop-i
invariant-loop-i l = Given (held_from l.held l.i) l.flags l.own l.b most_held_height
