use Rattle.start.specs.Along.{rooting, Placing}
use Rattle.start.proofs.place_all.Given as goal

abbrev pub invariant-loop-k : goal.invariant-loop-k
invariant-loop-k l = Placing (rooting l.lines l.order l.best l.k) l.root l.over l.b l.k
