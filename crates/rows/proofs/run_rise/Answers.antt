use Rattle.std.proofs.Common.{arith, ◌≤◌, nat_abs}
use mir.Syntax.{w64}
use mir.Val.{to_z}
use Rattle.laws.proofs.Signed.{back, stored}
use Rattle.laws.proofs.Size.{size_add}
use Rattle.book.specs.Limits.{most_difference}
use Rattle.rows.proofs.Totals.{rise_size, rise_next, rise_end}
use Rattle.rows.proofs.run_rise.Goals as goal

pub add-sum-requires : goal.add-sum-requires
add-sum-requires c =
    let p = c.requires in
    let s : nat_abs c.rise_by.result ≤ most_difference =
    rw (c.rise_by.ensures, c.from.ensures) (rise_size _ _ p.measured (p.run.each c.loop-code.code-index c.loop-code-test.true)) in
    rw (back _ c.rise_by.type_inv) (omega (arith, p.run.few, c.loop-code.invariant))

pub loop-code-preserved : goal.loop-code-preserved
loop-code-preserved c =
    let p = c.requires in
    let s : nat_abs c.rise_by.result ≤ most_difference =
    rw (c.rise_by.ensures, c.from.ensures) (rise_size _ _ p.measured (p.run.each c.loop-code.code-index c.loop-code-test.true)) in
    let e = stored c.add-sum.result c.add-sum.type_inv (rw (back _ c.rise_by.type_inv) at c.add-sum.ensures) in (
      rw (e, c.rise_by.ensures, c.from.ensures) (rise_next _ _ c.loop-code.code-index (to_z w64 c.loop-code.sum-bits) c.loop-code-test.true
          c.loop-code.invariant.0),
      rw e (omega (arith, size_add (to_z w64 c.loop-code.sum-bits) c.rise_by.result, c.loop-code.invariant)),
    )

pub returns : goal.returns
returns c =
    let v = c.loop-code.invariant in
    (rise_end _ _ c.loop-code.code-index _ (omega arith) v.0, omega (arith, c.requires.run.few, v.1))
