-- What a caller may rely on after a call of the reader, by name.
-- Assumes nothing.
use Rattle.std.specs.Prelude.{◌≡◌, List, ◌++◌, ℕ, ◌*◌, ◌<◌, ◌≤◌, drop, ℤ}
use Rattle.book.specs.Limits.{most_lines}
use Rattle.book.specs.Held.{held_words}
use Rattle.book.specs.Line.{line_words}
use Rattle.book.specs.Test.{refusal}
use Rattle.book.specs.Good.{GoodBook}
use Rattle.book.specs.declared.Book.{Book}
use Rattle.file.specs.Read.{Outcome, refused_with, done, held_of, lines_of, book_in}

-- a file that was read: a book inside every limit, in the first places of the buffers, whose other places are as they were
pub record BookRead (file : List ℕ) (held lines : List ℤ) (o : Outcome) : Type 0 where
  pub book : Book
  pub answer : o.answer ≡ done book
  pub good : GoodBook book (book_in file book)
  pub held_now : o.held ≡ held_of file book ++ drop (book.held * held_words) held
  pub lines_now : o.lines ≡ lines_of file book ++ drop (book.lines * line_words) lines

-- a file that was refused, by a number of the table and a place that is an entry or 0: "After a refusal the counts are 0 and no lent
-- buffer has changed."
pub record FileRefused (held lines : List ℤ) (o : Outcome) : Type 0 where
  pub number : ℕ
  pub place : ℕ
  pub low : 0 < number
  pub high : number ≤ 10
  pub near : place ≤ most_lines
  pub answer : o.answer ≡ refused_with (refusal number place)
  pub held_kept : o.held ≡ held
  pub lines_kept : o.lines ≡ lines
