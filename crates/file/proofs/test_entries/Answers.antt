use Rattle.std.proofs.Common.{rules, ◌≡◌, ◌*◌}
use lib.Seq.{take_at}
use Rattle.laws.proofs.Signed.{stored}
use Rattle.book.specs.Line.{line_words}
use Rattle.file.specs.Read.{held_of, lines_of}
use Rattle.file.specs.declared.entry.Kind.TheVariants.{Held}
use Rattle.file.proofs.Entries.{entries_length, lines_length}
use Rattle.file.proofs.test_entries.Goals as goal

pub returns : goal.returns
unfolding held_of
returns c =
    let k = c.args.book in
    let file = c.args.file.now in
    let version = stored c.signed_count-version.result c.signed_count-version.type_inv c.signed_count-version.ensures in
    let b = stored c.signed_count-b.result c.signed_count-b.type_inv c.signed_count-b.ensures in
    let t = stored c.signed_count-t.result c.signed_count-t.type_inv c.signed_count-t.ensures in
    rw (
      version,
      b,
      t,
      c.read_parts.ensures.held_read,
      take_at (held_of file k) _ (k.held * 2) (entries_length Held file 13 k.held),
      c.read_parts.ensures.lines_read,
      take_at (lines_of file k) _ (k.lines * line_words) (lines_length file k),
    ) at c.test.ensures
