use Prim.Native.Nat.{◌-◌}
use Rattle.divisions.proofs.quotient.+by_fours.Given as goal

abbrev pub decreases-by_fours : goal.decreases-by_fours
decreases-by_fours l = l.a - l.d
