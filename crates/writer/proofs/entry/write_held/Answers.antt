use Rattle.std.proofs.Common.{rules, arith}
use Rattle.book.specs.Held.{mark_at, height_at}
use Rattle.writer.specs.Entry.{held_bytes}
use Rattle.writer.proofs.Parts.{none_poured, then_signed, all_poured}
use Rattle.writer.proofs.entry.write_held.Goals as goal

pub returns : goal.returns
unfolding held_bytes
returns c =
    let e = c.args.e.now in
    let whole = c.requires.entry in
    let mark = then_signed (none_poured c.args.out.now) _ 2 (mark_at e 0) (omega (arith, whole)) (search rules) c.put_signed.ensures in
    let height = then_signed mark _ 8 (height_at e 0) (omega (arith, whole)) (search rules) c.put_signed-2.ensures in
    all_poured height whole
