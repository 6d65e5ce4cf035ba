use Rattle.std.proofs.Common.{rules, ◌≡◌, Err}
use Rattle.sweeps.proofs.States.{sweep_none, sweep_turn, sweep_outside}
use Rattle.sweeps.proofs.sweep.Goals as goal

pub loop-v-init : goal.loop-v-init
loop-v-init c = record { same = sweep_none _ _ _; working = c.requires.working }

pub returns-in_err-moved : goal.returns-in_err-moved
returns-in_err-moved c =
    let o = c.in_err-moved.field-0.0 in
    let e : c.from_residual.result ≡ Err o = search rules in
    let t = c.in_err-moved.ensures in
    (rw e (sweep_outside _ _ _ o.mark c.loop-v.v c.args.b _ c.loop-v-test.true c.loop-v.invariant.same t.0), t.1)

pub loop-v-preserved : goal.loop-v-preserved
loop-v-preserved c =
    let t = c.in_ok-moved.ensures in
    record { same = sweep_turn _ _ _ c.loop-v.v _ _ c.loop-v.invariant.same t.0; working = t.1 }
