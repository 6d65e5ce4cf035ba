use Rattle.std.proofs.Common.{arith, sym, ◌∙◌}
use lib.ListN.{length-map, get_or-map}
use Rattle.laws.proofs.Signed.{stored}
use Rattle.laws.proofs.Laid.{laid_next}
use Rattle.lists.specs.Run.{listed_by}
use Rattle.lists.proofs.run.list_run.Goals as goal

pub loop-i-preserved : goal.loop-i-preserved
loop-i-preserved c =
    let run = c.args.run.now in
    let n = length-map run listed_by in
    laid_next _ _ _ c.loop-i.i _ (listed_by 0) (omega (arith, n, c.requires.room)) (omega (arith, n))
    (stored _ c.listed_by.type_inv c.listed_by.ensures ∙ sym (get_or-map listed_by run c.loop-i.i 0)) c.loop-i.invariant
