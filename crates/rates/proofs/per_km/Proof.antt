use mir.Facts.{to_z-of_z}
use Rattle.rates.specs.Rates.{quotient}
use Rattle.rates.proofs.Exact.{exact_below}
use Rattle.rates.proofs.per_km.Statement.{statement}
use Rattle.rates.proofs.per_km.Tie as tie

int-to-float-result : tie.Need-int_to_float-result
int-to-float-result c = let s = c.before in rw (to_z-of_z s.ranges.correction) (exact_below s.args.correction s.requires.0)

int-to-float-result-2 : tie.Need-int_to_float-result-2
int-to-float-result-2 c = let s = c.before.before in rw (to_z-of_z s.ranges.length) (exact_below s.args.length s.requires.1)

returns : tie.Need-returns
unfolding quotient
returns c = let f = c.ranges in rw (to_z-of_z f.correction, to_z-of_z f.length)

pub per_km_spec : {M : Type 1} → statement M
per_km_spec = tie.close (tie.spec int-to-float-result int-to-float-result-2 returns)
