use Rattle.std.proofs.Common.{arith, sym, ◌∙◌, pos}
use lib.ListN.{length-map, get_or-map}
use Rattle.laws.proofs.Signed.{stored}
use Rattle.laws.proofs.Laid.{laid_next}
use Rattle.lists.proofs.watch.list_numbers.Goals as goal

pub loop-i-preserved : goal.loop-i-preserved
loop-i-preserved c =
    let list = c.args.list.now in
    let n = length-map list pos in
    laid_next _ _ _ c.loop-i.i _ (pos 0) (omega (arith, n, c.requires.room)) (omega (arith, n))
    (stored _ c.signed_count.type_inv c.signed_count.ensures ∙ sym (get_or-map pos list c.loop-i.i 0)) c.loop-i.invariant
