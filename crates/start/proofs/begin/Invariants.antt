use Rattle.std.proofs.Common.{◌≡◌, ℕ, ◌<◌, get_or, pos}
use Rattle.start.specs.Along.{start_at}
use Rattle.start.proofs.begin.Given as goal

abbrev pub invariant-loop-v : goal.invariant-loop-v
invariant-loop-v l = (u : ℕ) → u < l.v → get_or l.h u (pos 0) ≡ start_at l.flags l.own l.root l.over l.base u
