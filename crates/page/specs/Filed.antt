-- The text of a file: what is printed of its book, or the line of its refusal.
-- Assumes nothing.
use Rattle.std.specs.Prelude.{◌≡◌, List, ℕ, ◌*◌, ℤ, take}
use Rattle.book.specs.Line.{line_words}
use Rattle.book.specs.Good.{GoodLines}
use Rattle.book.specs.Test.{test_of, if_good}
use Rattle.book.specs.declared.Book.{Book}
use Rattle.book.specs.Test.{Tested}
use Rattle.book.specs.Test.{Good, Refused}
use Rattle.file.specs.Read.{head_of, held_of, lines_of, book_in}
use Rattle.file.specs.Read as head
use Rattle.file.specs.Read.{Head}
use Rattle.text.specs.Report.{refused_text}

-- what is printed of a good book: of its version, its counts and its lines
abbrev pub BookText : Type 0
BookText = Book → List ℤ → List ℕ

-- of a file's book, by the test of every call: its text, or "for a refused file .. one line instead"
unfoldable pub stated_text : BookText → List ℕ → Head → List ℕ
unfolding refused_text test_of held_of lines_of
stated_text text file (head.Refused number) = refused_text number 0
stated_text text file (head.States k) =
    if_good (test_of (book_in file k)) (λ r. refused_text r.number r.place)
    (λ _. text k (lines_of file k))

-- of a file
unfoldable pub file_text : BookText → List ℕ → List ℕ
unfolding stated_text head_of
file_text text file = stated_text text file (head_of file)

-- ---- a file as it was read

-- the lines of the book k, in the first places of a buffer
abbrev pub book_lines : Book → List ℤ → List ℤ
book_lines k lines = take (k.lines * line_words) lines

-- the file's book is good, and whatever is printed of it is the file's text
pub record BookFiled (file : List ℕ) (lines : List ℤ) (k : Book) : Type 0 where
  pub good : GoodLines k (book_lines k lines)
  pub its_text : (text : BookText) → text k (book_lines k lines) ≡ file_text text file

-- a file's book, or its refusal
abbrev pub Filed : List ℕ → List ℤ → Tested → Type 0
Filed file lines (Good k) = BookFiled file lines k
Filed file lines (Refused r) = (text : BookText) → refused_text r.number r.place ≡ file_text text file
