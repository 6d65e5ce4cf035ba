use Rattle.file.specs.Read.{held_of, lines_of}
use Rattle.file.proofs.Entries.{line_words_lem}
use Rattle.file.proofs.read_parts.Goals as goal

pub returns-clause-held_read : goal.returns-clause-held_read
unfolding held_of
returns-clause-held_read c = c.read_entries.ensures

pub returns-clause-lines_read : goal.returns-clause-lines_read
unfolding lines_of
returns-clause-lines_read c = rw (c.read_entries-2.ensures, c.of_lines.ensures, line_words_lem c.args.book.version)
