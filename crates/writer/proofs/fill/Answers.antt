use Rattle.std.proofs.Common.{◌∙◌, ◌+◌, ◌*◌, arith}
use Rattle.file.specs.Entry.{line_kind}
use Rattle.file.specs.declared.entry.Kind.TheVariants.{Held}
use Rattle.writer.specs.Entry.{written}
use Rattle.writer.specs.Write.{head_bytes, file_of}
use Rattle.writer.proofs.Entries.{head_length, written_length}
use Rattle.writer.proofs.Parts.{none_poured, then_part}
use Rattle.writer.proofs.fill.Goals as goal

pub returns : goal.returns
unfolding file_of
returns c =
    let k = c.args.book in
    let h = c.args.held.now in
    let l = c.args.lines.now in
    let size = c.requires.size in
    let head = then_part (none_poured c.args.file.now) _ (head_bytes k) 13 (omega arith) c.write_head.ensures (head_length k) in
    let held = then_part head _ (written Held h k.held) (13 + k.held * 10) (omega arith) c.write_entries.ensures
    (written_length Held h k.held ∙ omega arith) in
    let lines = then_part held _ (written (line_kind k.version) l k.lines) c.args.bytes (omega (arith, size))
    (rw c.of_lines.ensures at c.write_entries-2.ensures)
    (written_length (line_kind k.version) l k.lines ∙ omega (arith, size)) in
    lines.is
