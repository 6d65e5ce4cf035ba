use Rattle.std.proofs.Common.{sym}
use Rattle.std.proofs.Math.Nat.{div-eq_of_lt}
use Rattle.divisions.specs.Weight.{weight_of}
use Rattle.divisions.proofs.Quotients.{quotient_is}
use Rattle.divisions.proofs.weight.Goals as goal

pub returns-then-length-gt1000000 : goal.returns-then-length-gt1000000
unfolding weight_of
returns-then-length-gt1000000 c = sym (div-eq_of_lt c.if-length-gt1000000.true)

pub returns : goal.returns
unfolding weight_of
returns c = quotient_is _ _ _ _ c.divide.ensures
