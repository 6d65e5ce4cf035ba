use Rattle.sights.specs.Halves.{WeightsOf}
use Rattle.sights.proofs.weigh_lines.Given as goal

abbrev pub invariant-loop-i : goal.invariant-loop-i
invariant-loop-i l = WeightsOf l.lines l.i l.weights
