use Rattle.laws.proofs.Signed.{eq_bits}
use Rattle.signed.proofs.same.Statement.{statement}
use Rattle.signed.proofs.same.Tie as tie

returns : tie.Need-returns
returns c = eq_bits c.args.x c.args.y c.ranges.x c.ranges.y

pub same_spec : {M : Type 1} → statement M
same_spec = tie.close (tie.spec returns)
