use Rattle.std.proofs.Common.{◌∙◌, ap, pos}
use Rattle.laws.proofs.Signed.{stored}
use Rattle.junctions.proofs.Writing.{entry_stored}
use Rattle.junctions.proofs.entries.write_entry.Goals as goal

pub returns : goal.returns
returns c =
    entry_stored _ c.args.out.now _ _ c.requires.room
    (stored _ c.signed_count.type_inv (c.signed_count.ensures ∙ ap pos c.first.ensures))
    (stored _ c.signed_count-2.type_inv (c.signed_count-2.ensures ∙ ap pos c.last.ensures))
    (stored _ c.signed_count-3.type_inv c.signed_count-3.ensures)
    (stored _ c.signed_count-4.type_inv (c.signed_count-4.ensures ∙ ap pos c.run_length.ensures.0))
    (stored _ c.run_rise.type_inv c.run_rise.ensures.0)
