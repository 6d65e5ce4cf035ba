use Rattle.std.proofs.Common.{List, ℕ}
use Rattle.chains.specs.Chains.{Chain}
use Rattle.chains.proofs.Halves.{steps_left}
use Rattle.search.specs.Front.{keys}
use Rattle.search.proofs.Relaxing.{Relaxing}
use Rattle.search.proofs.relax.Given as goal

abbrev pub invariant-loop-h : goal.invariant-loop-h
invariant-loop-h l = ((hs : List ℕ) × Chain l.next l.h hs)
    × Relaxing l.n l.next l.ends (keys l.initial.best l.initial.seg) (keys l.best l.seg) l.first l.base l.h

abbrev pub decreases-loop-h : goal.decreases-loop-h
decreases-loop-h l = steps_left l.next l.h
