use Rattle.laws.proofs.Scans.{Scanned}
use Rattle.start.specs.Along.{unheld}
use Rattle.start.proofs.first_unheld.Given as goal

abbrev pub invariant-loop-v : goal.invariant-loop-v
invariant-loop-v l = Scanned (unheld l.root l.has) l.b l.v
