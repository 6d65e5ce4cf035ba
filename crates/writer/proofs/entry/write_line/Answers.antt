use Rattle.std.proofs.Common.{rules, arith}
use Rattle.book.specs.Line.{from_at, to_at, difference_at, length_at}
use Rattle.writer.specs.Entry.{line_bytes}
use Rattle.writer.proofs.Parts.{none_poured, then_signed, all_poured}
use Rattle.writer.proofs.entry.write_line.Goals as goal

pub returns : goal.returns
unfolding line_bytes
returns c =
    let e = c.args.e.now in
    let whole = c.requires.entry in
    let from = then_signed (none_poured c.args.out.now) _ 2 (from_at e 0) (omega (arith, whole)) (search rules) c.put_signed.ensures in
    let to = then_signed from _ 2 (to_at e 0) (omega (arith, whole)) (search rules) c.put_signed-2.ensures in
    let difference = then_signed to _ 4 (difference_at e 0) (omega (arith, whole)) (search rules) c.put_signed-3.ensures in
    let length = then_signed difference _ 4 (length_at e 0) (omega (arith, whole)) (search rules) c.put_signed-4.ensures in
    all_poured length whole
