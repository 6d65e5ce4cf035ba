-- `signed::outside` meets its contract: the machine's tests are of what is read back from the bits, which is the number.
-- Assumes nothing.
use mir.Facts.{to_z-of_z}
use Rattle.laws.specs.Tests.{out_z}
use Rattle.signed.proofs.outside.Statement.{statement}
use Rattle.signed.proofs.outside.Tie as tie

returns : tie.Need-returns-then-x-lo
unfolding out_z
returns c =
    let f = c.before.ranges in
    let e = simp (to_z-of_z f.x, to_z-of_z f.lo) at c.if-x-lo.true in
    simp e

returns-2 : tie.Need-returns-else-x-lo
unfolding out_z
returns-2 c =
    let f = c.before.ranges in
    let e = simp (to_z-of_z f.x, to_z-of_z f.lo) at c.if-x-lo.false in
    simp (to_z-of_z f.x, to_z-of_z f.hi, e)

pub outside_spec : {M : Type 1} → statement M
outside_spec = tie.close (tie.spec returns returns-2)
