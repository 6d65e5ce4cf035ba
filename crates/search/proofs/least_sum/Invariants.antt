use Rattle.std.proofs.Common.{List, ℕ}
use Rattle.chains.specs.Chains.{Chain}
use Rattle.chains.proofs.Halves.{steps_left}
use Rattle.search.proofs.Direct.{Least}
use Rattle.search.proofs.least_sum.Given as goal

abbrev pub invariant-loop-h : goal.invariant-loop-h
invariant-loop-h l = ((hs : List ℕ) × Chain l.next l.h hs) × Least l.next l.ends l.first l.h l.s

abbrev pub decreases-loop-h : goal.decreases-loop-h
decreases-loop-h l = steps_left l.next l.h
