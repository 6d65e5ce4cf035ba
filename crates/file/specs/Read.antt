-- What the reader of a book file answers, and what it leaves in the buffers that it is lent: document 01, refusals 1 to 7 and 10, lowest
-- first.
-- Assumes nothing.
use Rattle.std.specs.Prelude.{not, cond, List, ◌++◌, ◌≡◌, ℕ, ◌+◌, ◌*◌, ◌≤◌, eqb, ltb, length, drop, ℤ, pos, Result, Ok, Err}
use Rattle.book.specs.Limits.{most_version, most_marks, most_lines, most_held, most_tolerance}
use Rattle.book.specs.Version.{version_out}
use Rattle.book.specs.Held.{held_words}
use Rattle.book.specs.Line.{line_words}
use Rattle.book.specs.Lent.{Lent, lent}
use Rattle.book.specs.Test.{book_out, counts, refusal, no_refusal, test_of, if_good}
use Rattle.book.specs.Refusals.{Told, number_of, told_of}
use Rattle.book.specs.declared.refusal.Refusal.{Refusal}
use Rattle.book.specs.declared.Book.{Book}
use Rattle.file.specs.Wire.{be}
use Rattle.file.specs.Entry.{entry_bytes, line_kind, entries}
use Rattle.file.specs.declared.entry.Kind.TheVariants.{Held}

-- "total length in 4 bytes, counting themselves"; the version in a byte; "t, b, h and n in 2 bytes each"
abbrev pub stated_length : List ℕ → ℕ
stated_length file = be 4 file 0

abbrev pub stated_version : List ℕ → ℕ
stated_version file = be 1 file 4

abbrev pub stated_t : List ℕ → ℕ
stated_t file = be 2 file 5

abbrev pub stated_b : List ℕ → ℕ
stated_b file = be 2 file 7

abbrev pub stated_h : List ℕ → ℕ
stated_h file = be 2 file 9

abbrev pub stated_n : List ℕ → ℕ
stated_n file = be 2 file 11

abbrev pub stated_counts : List ℕ → Book
stated_counts file = counts (pos (stated_version file)) (pos (stated_b file)) (pos (stated_t file)) (stated_h file) (stated_n file)

-- "A file has 13 + 10h + 12n bytes"; of version 2 "a line takes 14 bytes and the file 13 + 10h + 14n"
abbrev pub file_length : ℕ → ℕ → ℕ → ℕ
file_length version h n = 13 + h * 10 + n * entry_bytes (line_kind version)

-- so long is the file of a book with these counts
abbrev pub length_of : Book → ℕ
length_of k = file_length k.version k.held k.lines

-- what the first bytes of a file tell: the version and the counts that it states, or the number of the refusal, whose place is 0
pub data Head : Type 0 where
  States : Book → Head
  Refused : ℕ → Head

abbrev pub head : Result Book Refusal → Head
head (Ok k) = States k
head (Err r) = Refused (number_of r)

-- refusals 1 to 5, whose place is 0, or the version and the counts that the file states
unfoldable pub head_of : List ℕ → Head
unfolding be version_out book_out
head_of file =
    cond (ltb (length file) 13) (Refused 1)
    (cond (not (eqb (stated_length file) (length file))) (Refused 2)
    (cond (version_out (pos (stated_version file))) (Refused 3)
    (cond (book_out (pos (stated_version file)) (pos (stated_b file)) (pos (stated_t file)) (stated_h file) (stated_n file))
    (Refused 4)
    (cond (not (eqb (length file) (file_length (stated_version file) (stated_h file) (stated_n file)))) (Refused 5)
    (States (stated_counts file))))))

-- the numbers that the held entries and the lines of a file with the counts k put into memory
unfoldable pub held_of : List ℕ → Book → List ℤ
unfolding entries
held_of file k = entries Held file 13 k.held

unfoldable pub lines_of : List ℕ → Book → List ℤ
unfolding entries
lines_of file k = entries (line_kind k.version) file (13 + k.held * 10) k.lines

-- the book that they make, as every call is lent one
abbrev pub book_in : List ℕ → Book → Lent
book_in file k = lent (pos k.version) (pos k.marks) (pos k.tolerance) (held_of file k) (lines_of file k)

-- "An answer is a number .., a place .. and the counts its call fills: the reader b, t, h and n", and the version
pub record ReadAnswer : Type 0 where
  pub refusal : Told
  pub version : ℕ
  pub b : ℕ
  pub t : ℕ
  pub h : ℕ
  pub n : ℕ

-- "After a refusal the counts are 0"
abbrev pub refused_with : Told → ReadAnswer
refused_with r = record { refusal = r; version = 0; b = 0; t = 0; h = 0; n = 0 }

abbrev pub done : Book → ReadAnswer
done k = record { refusal = no_refusal; version = k.version; b = k.marks; t = k.tolerance; h = k.held; n = k.lines }

abbrev pub answer_of : Result Book Refusal → ReadAnswer
answer_of (Ok k) = done k
answer_of (Err r) = refused_with (told_of r)

-- what a call answers, and what the two lent buffers then hold
pub record Outcome : Type 0 where
  pub answer : ReadAnswer
  pub held : List ℤ
  pub lines : List ℤ

abbrev pub answered : List ℤ → List ℤ → ReadAnswer → Outcome
answered held lines a = record { answer = a; held = held; lines = lines }

-- refusal 10, or the book read: "Output places past the answer stay unchanged"
unfoldable pub room_of : List ℕ → Book → List ℤ → List ℤ → Outcome
unfolding held_of lines_of
room_of file k held lines =
    cond (ltb (length held) (k.held * held_words)) (answered held lines (refused_with (refusal 10 0)))
    (cond (ltb (length lines) (k.lines * line_words)) (answered held lines (refused_with (refusal 10 0)))
    (record {
      answer = done k;
      held = held_of file k ++ drop (k.held * held_words) held;
      lines = lines_of file k ++ drop (k.lines * line_words) lines;
    }))

-- refusals 6 and 7 by the test of every call, then what comes after it
unfoldable pub body_of : List ℕ → Book → List ℤ → List ℤ → Outcome
unfolding room_of test_of held_of lines_of
body_of file k held lines =
    if_good (test_of (book_in file k)) (λ r. answered held lines (refused_with r)) (λ _. room_of file k held lines)

unfoldable pub after_head : List ℕ → List ℤ → List ℤ → Head → Outcome
unfolding body_of
after_head file held lines (Refused number) = answered held lines (refused_with (refusal number 0))
after_head file held lines (States k) = body_of file k held lines

-- what the reader does with a file
unfoldable pub read_of : List ℕ → List ℤ → List ℤ → Outcome
unfolding after_head head_of
read_of file held lines = after_head file held lines (head_of file)

-- a head that is not refused states a file of this length, with version and counts within their limits
pub record Stated (len : ℕ) (k : Book) : Type 0 where
  pub size : len ≡ length_of k
  pub known_version : k.version ≤ most_version
  pub few_marks : k.marks ≤ most_marks
  pub small_tolerance : k.tolerance ≤ most_tolerance
  pub few_held : k.held ≤ most_held
  pub few_lines : k.lines ≤ most_lines
