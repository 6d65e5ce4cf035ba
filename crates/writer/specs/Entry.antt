-- The numbers of a book in memory, as the bytes that they are in its file: what `numbers` and `entries` of room file read.
-- Assumes nothing.
use Rattle.std.specs.Prelude.{List, [], ◌++◌, ℕ, zero, suc, ◌*◌, take, drop, ℤ}
use Rattle.book.specs.Held.{mark_at, height_at}
use Rattle.book.specs.Line.{from_at, to_at, difference_at, length_at, standing_at, class_at}
use Rattle.file.specs.Entry.{entry_words}
use Rattle.file.specs.declared.entry.Kind.{Kind}
use Rattle.file.specs.declared.entry.Kind.TheVariants.{Held, Line, ClassedLine}
use Rattle.writer.specs.Bytes.{bytes_of, in_bytes}

-- "held entries (mark 2, height 8 signed)"
unfoldable pub held_bytes : List ℤ → List ℕ
unfolding bytes_of
held_bytes e = in_bytes 2 (mark_at e 0) ++ in_bytes 8 (height_at e 0)

-- "lines (from 2, to 2, difference 4 signed, length 4)"
unfoldable pub line_bytes : List ℤ → List ℕ
unfolding bytes_of
line_bytes e = in_bytes 2 (from_at e 0) ++ in_bytes 2 (to_at e 0) ++ in_bytes 4 (difference_at e 0) ++ in_bytes 4 (length_at e 0)

-- "two more bytes in each line, a class and the standing mark"
unfoldable pub classed_line_bytes : List ℤ → List ℕ
unfolding line_bytes bytes_of
classed_line_bytes e = line_bytes e ++ in_bytes 1 (class_at e 0) ++ in_bytes 1 (standing_at e 0)

-- the bytes of an entry
abbrev pub bytes : Kind → List ℤ → List ℕ
bytes Held e = held_bytes e
bytes Line e = line_bytes e
bytes ClassedLine e = classed_line_bytes e

-- the bytes of the first n entries of a slice
unfoldable pub written : Kind → List ℤ → ℕ → List ℕ
unfolding held_bytes line_bytes classed_line_bytes
written kind slice zero = []
written kind slice (suc n) = written kind slice n ++ bytes kind (take (entry_words kind) (drop (n * entry_words kind) slice))
