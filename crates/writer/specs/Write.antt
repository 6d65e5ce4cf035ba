-- Request 05: "Write a book as a file, either version." What the writer answers, and what it leaves in the file that it is lent: refusals
-- 3, 4, 6 and 7, then 16, then 10.
-- Assumes nothing.
use Rattle.std.specs.Prelude.{Bool, false, cond, List, ◌++◌, ℕ, ltb, length, drop, ℤ, pos}
use Rattle.std.specs.Prelude.{Result, Ok, Err}
use Rattle.laws.specs.Tests.{eq_z}
use Rattle.laws.specs.Scan.{any_below}
use Rattle.book.specs.Version.{has_classes}
use Rattle.book.specs.Line.{standing_at}
use Rattle.book.specs.Lent.{Lent}
use Rattle.book.specs.Test.{refusal, no_refusal, test_of, if_good}
use Rattle.book.specs.declared.Book.{Book}
use Rattle.book.specs.Refusals.{Told, told_of}
use Rattle.book.specs.declared.refusal.Refusal.{Refusal}
use Rattle.file.specs.Entry.{line_kind}
use Rattle.file.specs.Read.{length_of}
use Rattle.file.specs.declared.entry.Kind.TheVariants.{Held}
use Rattle.writer.specs.Bytes.{bytes_of}
use Rattle.writer.specs.Entry.{written}

-- "total length in 4 bytes, counting themselves"; the version in a byte; "t, b, h and n in 2 bytes each"
unfoldable pub head_bytes : Book → List ℕ
unfolding bytes_of
head_bytes k =
    bytes_of 4 (length_of k) ++ bytes_of 1 k.version
    ++ bytes_of 2 k.tolerance ++ bytes_of 2 k.marks ++ bytes_of 2 k.held ++ bytes_of 2 k.lines

-- the file of a book: its head, its held entries, its lines
unfoldable pub file_of : Book → List ℤ → List ℤ → List ℕ
unfolding head_bytes written
file_of k held lines = head_bytes k ++ written Held held k.held ++ written (line_kind k.version) lines k.lines

-- a line of the first n is withdrawn
unfoldable pub any_withdrawn : List ℤ → ℕ → Bool
unfolding any_below
any_withdrawn lines n = any_below (λ i. eq_z (standing_at lines i) (pos 0)) n

-- "Version 1 cannot say that a line is withdrawn"
unfoldable pub cannot_say : Book → List ℤ → Bool
unfolding any_withdrawn
cannot_say k lines = cond (has_classes (pos k.version)) false (any_withdrawn lines k.lines)

-- "An answer is a number .., a place .. and the counts its call fills": how many bytes the file has
pub record Written : Type 0 where
  pub refusal : Told
  pub bytes : ℕ

-- "After a refusal the counts are 0"
abbrev pub refused_with : Told → Written
refused_with r = record { refusal = r; bytes = 0 }

abbrev pub done : Book → Written
done k = record { refusal = no_refusal; bytes = length_of k }

abbrev pub answer_of : Result ℕ Refusal → Written
answer_of (Ok bytes) = record { refusal = no_refusal; bytes = bytes }
answer_of (Err r) = refused_with (told_of r)

-- the answer, and the lent file after the call
pub record Writing : Type 0 where
  pub answer : Written
  pub file : List ℕ

abbrev pub writing : Written → List ℕ → Writing
writing a file = record { answer = a; file = file }

-- 16, then 10, or the whole file; "Output places past the answer stay unchanged"
unfoldable pub write_good : Book → List ℤ → List ℤ → List ℕ → Writing
unfolding cannot_say file_of
write_good k held lines file =
    cond (cannot_say k lines) (writing (refused_with (refusal 16 0)) file)
    (cond (ltb (length file) (length_of k)) (writing (refused_with (refusal 10 0)) file)
    (writing (done k) (file_of k held lines ++ drop (length_of k) file)))

-- what the writer does with a lent book and a lent file
unfoldable pub write_of : Lent → List ℕ → Writing
unfolding write_good test_of
write_of book file =
    if_good (test_of book) (λ r. writing (refused_with r) file) (λ k. write_good k book.held book.lines file)
