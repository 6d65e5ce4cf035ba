use Rattle.std.proofs.Common.{refl, arith}
use Rattle.joins.proofs.Starting.{begun_start, begun_not, begun_next, begun_end}
use Rattle.joins.proofs.start.own_links.Goals as goal
use Rattle.joins.proofs.start.own_links.Goals.{then-lines-i-ne0, else-lines-i-ne0}

pub loop-i-init : goal.loop-i-init
loop-i-init c = record { few = omega arith; begun = begun_start _ _ _ }

pub loop-i-preserved : goal.loop-i-preserved
loop-i-preserved c = elim c.if-lines-i-ne0.branch [
  | then-lines-i-ne0 w ↦ record {
    few = omega (arith, w.links-is);
    begun = rw (w.rows-is, w.runs-is, w.links-is) (begun_next _ _ c.requires.good _ _ c.loop-i-test.true c.loop-i.invariant.begun
        w.if-lines-i-ne0.true _ _ _ _ w.from_mark-from.ensures.0 w.to_mark-to.ensures.0 w.new.ensures refl (omega arith) (omega arith));
  }
  | else-lines-i-ne0 w ↦ record {
    few = omega (arith, w.links-is);
    begun = rw (w.rows-is, w.runs-is, w.links-is)
        (begun_not _ _ c.requires.good _ _ c.loop-i-test.true c.loop-i.invariant.begun w.if-lines-i-ne0.false);
  }
]

pub returns : goal.returns
returns c = begun_end _ _ c.requires.good _ _ c.loop-i-test.false c.loop-i.invariant.begun
