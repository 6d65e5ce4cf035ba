use Rattle.std.proofs.Common.{rules, ◌≡◌, Err}
use Rattle.sweeps.specs.declared.Unsettled.TheVariants as why
use Rattle.sweeps.proofs.States.{left_start, left_still, left_moved, left_outside, left_none}
use Rattle.sweeps.proofs.settle.Goals as goal

pub loop-n-init : goal.loop-n-init
loop-n-init c = record { working = c.requires.working; left = left_start _ _ _ _ }

pub returns-in_err-moved : goal.returns-in_err-moved
returns-in_err-moved c =
    let o = c.in_err-moved.field-0.0 in
    let e : c.from_residual.result ≡ Err (why.Outside o.mark) = search rules in
    rw e (left_outside _ _ _ _ _ _ c.loop-n-test.true c.loop-n.invariant.left _ c.in_err-moved.ensures.0)

pub returns-then-not-moved : goal.returns-then-not-moved
returns-then-not-moved c =
    left_still _ _ _ _ _ _ c.loop-n-test.true c.loop-n.invariant.left _ (rw c.if-not-moved.true at c.in_ok-moved.ensures.0)

pub loop-n-preserved : goal.loop-n-preserved
loop-n-preserved c = record {
  working = c.in_ok-moved.ensures.1;
  left = left_moved _ _ _ _ _ _ c.loop-n-test.true c.loop-n.invariant.left _ (rw c.if-not-moved.false at c.in_ok-moved.ensures.0);
}

pub returns : goal.returns
returns c = left_none _ _ _ _ _ _ c.loop-n-test.false c.loop-n.invariant.left
