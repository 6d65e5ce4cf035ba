-- Request 05, "Save what was corrected": a book written as a file, and read from it.
-- Assumes nothing.
use Rattle.std.specs.Prelude.{◌≡◌, ◌⊎◌, List, ◌++◌, ℕ, ◌*◌, ◌≤◌, ◌<◌, length, take, drop, ℤ, pos}
use Rattle.book.specs.Held.{held_words}
use Rattle.book.specs.Line.{line_words, standing_at}
use Rattle.book.specs.Lent.{Lent, lent}
use Rattle.book.specs.Test.{no_refusal, test_of}
use Rattle.book.specs.declared.Book.{Book}
use Rattle.book.specs.Test.{Good}
use Rattle.file.specs.Read.{Outcome}
use Rattle.writer.specs.Write.{Writing}

-- the file that a call has written: the first bytes of the lent one, as many as it answers
abbrev pub saved_in : Writing → List ℕ
saved_in w = take w.answer.bytes w.file

-- the book that the reader has put into its buffers, as the next call is lent it
abbrev pub book_now : Outcome → Lent
book_now o =
    lent (pos o.answer.version) (pos o.answer.b) (pos o.answer.t)
    (take (o.answer.h * held_words) o.held) (take (o.answer.n * line_words) o.lines)

-- a file can say all of the book: it is "of version 2, or of version 1 without a withdrawn line"
abbrev pub CanSay : Book → List ℤ → Type 0
CanSay k lines = (k.version ≡ 2) ⊎ ((i : ℕ) → i < k.lines → standing_at lines i ≡ pos 1)

-- a book that "passes every test" and that a file can say
pub record Writable (book : Lent) (k : Book) : Type 0 where
  pub passes : test_of book ≡ Good k
  pub said : CanSay k book.lines

-- the buffers have room for its entries
pub record RoomFor (k : Book) (held lines : List ℤ) : Type 0 where
  pub for_held : k.held * held_words ≤ length held
  pub for_lines : k.lines * line_words ≤ length lines

-- the reader "answers 0 with the same version, b, t, held entries in their order, and lines"; all other places are as they were
pub record SameBook (book : Lent) (held lines : List ℤ) (o : Outcome) : Type 0 where
  pub done : o.answer.refusal ≡ no_refusal
  pub version : pos o.answer.version ≡ book.version
  pub marks : pos o.answer.b ≡ book.b
  pub tolerance : pos o.answer.t ≡ book.t
  pub held_count : o.answer.h * held_words ≡ length book.held
  pub line_count : o.answer.n * line_words ≡ length book.lines
  pub held_are : o.held ≡ book.held ++ drop (length book.held) held
  pub lines_are : o.lines ≡ book.lines ++ drop (length book.lines) lines
