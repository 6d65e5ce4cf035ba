-- The entries of a book file, as the numbers that they put into memory.
-- Assumes nothing.
use Rattle.std.specs.Prelude.{cond, List, [], ◌∷◌, ◌++◌, ℕ, zero, suc, ◌+◌, ◌*◌, take, drop, ℤ, pos}
use Rattle.std.specs.Int.{w32, w64}
use Rattle.std.proofs.Common.{to_z}
use Rattle.book.specs.Held.{held_words}
use Rattle.book.specs.Line.{line_words}
use Rattle.book.specs.Version.{has_classes, no_class}
use Rattle.file.specs.Wire.{be}
use Rattle.file.specs.declared.entry.Kind.{Kind}
use Rattle.file.specs.declared.entry.Kind.TheVariants.{Held, Line, ClassedLine}

-- "held entries (mark 2, height 8 signed)"
unfoldable pub held_numbers : List ℕ → List ℤ
unfolding be
held_numbers e = pos (be 2 e 0) ∷ to_z w64 (be 8 e 2) ∷ []

-- "lines (from 2, to 2, difference 4 signed, length 4)", with this standing and this class
unfoldable pub line_numbers : ℤ → ℤ → List ℕ → List ℤ
unfolding be
line_numbers standing class e = pos (be 2 e 0) ∷ pos (be 2 e 2) ∷ to_z w32 (be 4 e 4) ∷ pos (be 4 e 8) ∷ standing ∷ class ∷ []

-- bytes of an entry in the file, its numbers in memory, and what they are
abbrev pub entry_bytes : Kind → ℕ
entry_bytes Held = 10
entry_bytes Line = 12
entry_bytes ClassedLine = 14

abbrev pub entry_words : Kind → ℕ
entry_words Held = held_words
entry_words Line = line_words
entry_words ClassedLine = line_words

-- of version 1 every line that is read stands and has no class; of version 2 a line has "two more bytes .., a class and the standing
-- mark"
abbrev pub numbers : Kind → List ℕ → List ℤ
numbers Held e = held_numbers e
numbers Line e = line_numbers (pos 1) no_class e
numbers ClassedLine e = line_numbers (pos (be 1 e 13)) (pos (be 1 e 12)) e

-- what the lines of a file of this version are
abbrev pub line_kind : ℕ → Kind
line_kind version = cond (has_classes (pos version)) ClassedLine Line

-- the numbers of the first n entries from place a of a file on
unfoldable pub entries : Kind → List ℕ → ℕ → ℕ → List ℤ
unfolding held_numbers line_numbers
entries kind file a zero = []
entries kind file a (suc n) = entries kind file a n ++ numbers kind (take (entry_bytes kind) (drop (a + n * entry_bytes kind) file))
