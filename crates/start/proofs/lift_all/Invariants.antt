use Rattle.start.specs.Along.{Given, roots_from, spots, gives, most_root}
use Rattle.start.proofs.lift_all.Given as goal

abbrev pub invariant-loop-v : goal.invariant-loop-v
invariant-loop-v l = Given (roots_from (spots l.root l.over) (gives l.flags l.own) l.b l.v) l.has l.base l.b most_root
