use Rattle.std.proofs.Common.{arith, ap, not, ◌<◌}
use Rattle.laws.proofs.Scans.{scan_start, scan_next, scan_stop, scan_end}
use Rattle.fields.proofs.Named.{found, none_left}
use Rattle.start.proofs.first_unheld.Goals as goal

pub loop-v-init : goal.loop-v-init
loop-v-init c = scan_start _ _

pub returns-then-not-has-its_root : goal.returns-then-not-has-its_root
returns-then-not-has-its_root c =
    let l : c.loop-v.v < c.args.b = omega (arith, c.loop-v-test.true, c.requires.roots.all) in
    found _ _ (scan_stop _ c.args.b c.loop-v.v l (ap not c.if-not-has-its_root.true) c.loop-v.invariant)

pub loop-v-preserved : goal.loop-v-preserved
loop-v-preserved c =
    scan_next _ c.args.b c.loop-v.v (omega (arith, c.loop-v-test.true, c.requires.roots.all)) (ap not c.if-not-has-its_root.false)
    c.loop-v.invariant

pub returns : goal.returns
returns c = none_left _ (scan_end _ c.args.b c.loop-v.v (omega (arith, c.loop-v-test.false, c.requires.roots.all)) c.loop-v.invariant)
