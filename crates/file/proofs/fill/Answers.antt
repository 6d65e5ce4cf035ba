use borrow.Author.Tests.{lt-ltb, le-ltb}
use Rattle.file.specs.Read.{room_of}
use Rattle.file.proofs.fill.Goals as goal

pub returns-then-held-book : goal.returns-then-held-book
unfolding room_of
returns-then-held-book c = rw (lt-ltb _ _ c.if-held-book.true)

pub returns-then-lines-book : goal.returns-then-lines-book
unfolding room_of
returns-then-lines-book c = rw (le-ltb _ _ c.if-held-book.false, lt-ltb _ _ c.if-lines-book.true)

pub returns : goal.returns
unfolding room_of
returns c =
    rw (
      le-ltb _ _ c.if-held-book.false,
      le-ltb _ _ c.if-lines-book.false,
      c.read_parts.ensures.held_read,
      c.read_parts.ensures.lines_read,
    )
