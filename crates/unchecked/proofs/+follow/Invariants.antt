-- `follow` passes one line of the farther mark's way and calls itself for the rest. The measure is the distance, of both marks together:
-- it "falls at each step", by at least the least length of a line. Assumes nothing.
use Prim.Native.Nat.{◌+◌}
use Rattle.unchecked.proofs.Following.{distance_at}
use Rattle.unchecked.proofs.+follow.Given as goal

abbrev pub decreases-follow : goal.decreases-follow
decreases-follow l = distance_at l.best.now l.u + distance_at l.best.now l.v
