use mir.Facts.{to_z-of_z}
use Rattle.laws.proofs.Signed.{stored}
use Rattle.rows.proofs.Totals.{row_stored}
use Rattle.rows.proofs.write_row.Goals as goal

pub returns : goal.returns
returns c =
    let first = c.signed_count in
    let second = c.signed_count-2 in
    let third = c.signed_count-3 in
    row_stored c.args.out.now c.requires.room (stored _ first.type_inv first.ensures) (stored _ second.type_inv second.ensures)
    (stored _ third.type_inv third.ensures) (to_z-of_z c.ranges.misclosure) (to_z-of_z c.ranges.verdict)
