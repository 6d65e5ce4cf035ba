use Rattle.start.specs.Along.{Seeded}
use Rattle.start.proofs.seed.Given as goal

abbrev pub invariant-loop-v : goal.invariant-loop-v
invariant-loop-v l = Seeded l.root l.v
