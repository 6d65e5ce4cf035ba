use Prim.Native.Nat.{◌/◌}
use lib.ListN.{get_or}
use Rattle.chains.specs.Chains.{halves}
use Rattle.search.proofs.+way.Given as goal

abbrev pub decreases-way : goal.decreases-way
decreases-way l = get_or l.best.now l.m 0 / halves
