use Rattle.std.proofs.Common.{rules, arith}
use Rattle.book.specs.Line.{class_at, standing_at}
use Rattle.file.specs.declared.entry.Kind.TheVariants.{Line}
use Rattle.writer.specs.Entry.{line_bytes, classed_line_bytes}
use Rattle.writer.proofs.Entries.{entry_length}
use Rattle.writer.proofs.Parts.{none_poured, then_part, then_signed, all_poured}
use Rattle.writer.proofs.entry.write_classed_line.Goals as goal

pub returns : goal.returns
unfolding classed_line_bytes
returns c =
    let e = c.args.e.now in
    let whole = c.requires.entry in
    let line = then_part (none_poured c.args.out.now) _ (line_bytes e) 12 (omega arith) c.write_line.ensures (entry_length Line e) in
    let class = then_signed line _ 1 (class_at e 0) (omega (arith, whole)) (search rules) c.put_signed.ensures in
    let standing = then_signed class _ 1 (standing_at e 0) (omega (arith, whole)) (search rules) c.put_signed-2.ensures in
    all_poured standing whole
