-- Document 01, "Refusal numbers" 3, 4, 6 and 7: the test of a lent book, lowest number first; 3, 4 and 7 as request 04 has them.
-- Assumes nothing.
use Rattle.std.specs.Prelude.{Bool, ◌||◌, cond, not, List, ℕ, ◌%◌, eqb, ltb, length, ℤ, pos, nat_abs, Result, Ok, Err}
use Rattle.laws.specs.Tests.{out_z, out_n}
use Rattle.book.specs.Limits.{least_marks, most_marks, least_lines, most_lines, least_held, most_held}
use Rattle.book.specs.Version.{version_out, tolerance_out}
use Rattle.book.specs.Held.{held_words, held_count, first_bad_held}
use Rattle.book.specs.Line.{line_words, line_count, first_bad_line}
use Rattle.book.specs.Lent.{Lent}
use Rattle.book.specs.declared.Book.{Book}
use Rattle.book.specs.declared.refusal.Refusal.{Refusal}
use Rattle.book.specs.Refusals.{Told, told_of}

-- "b, t, h, n .. outside its limit"
unfoldable pub book_out : ℤ → ℤ → ℤ → ℕ → ℕ → Bool
unfolding tolerance_out
book_out version b t h n =
    out_z (pos least_marks) (pos most_marks) b
    || tolerance_out version t
    || out_n least_held most_held h
    || out_n least_lines most_lines n

abbrev pub counts : ℤ → ℤ → ℤ → ℕ → ℕ → Book
counts version b t h n = record { version = nat_abs version; marks = nat_abs b; tolerance = nat_abs t; held = h; lines = n }

-- the counts of a lent book
abbrev pub counts_of : Lent → Book
counts_of book = counts book.version book.b book.t (held_count book.held) (line_count book.lines)

-- "An answer is a number (0 for done), a place (0 when done)": a refusal, and none
abbrev pub refusal : ℕ → ℕ → Told
refusal number place = record { number = number; place = place }

abbrev pub no_refusal : Told
no_refusal = refusal 0 0

-- what a test tells of a book: its version and counts, or the refusal
pub data Tested : Type 0 where
  Good : Book → Tested
  Refused : Told → Tested

abbrev pub tested : Result Book Refusal → Tested
tested (Ok k) = Good k
tested (Err r) = Refused (told_of r)

abbrev pub refused : ℕ → ℕ → Tested
refused number place = Refused (refusal number place)

-- the book that version and counts make, or refusal 3 or 4
unfoldable pub book_of : ℤ → ℤ → ℤ → ℕ → ℕ → Tested
unfolding version_out book_out
book_of version b t h n =
    cond (version_out version) (refused 3 0)
    (cond (book_out version b t h n) (refused 4 0)
    (Good (counts version b t h n)))

-- "a lent book slice not whole entries": of w numbers each
unfoldable pub torn : ℕ → List ℤ → Bool
torn w slice = not (eqb (length slice % w) 0)

-- what the test of a lent book answers
unfoldable pub test_of : Lent → Tested
unfolding version_out book_out torn first_bad_held first_bad_line
test_of book =
    cond (version_out book.version) (refused 3 0)
    (cond (book_out book.version book.b book.t (held_count book.held) (line_count book.lines)) (refused 4 0)
    (cond (torn held_words book.held) (refused 4 0)
    (cond (torn line_words book.lines) (refused 4 0)
    (cond (ltb 0 (first_bad_held book.b book.held)) (refused 6 (first_bad_held book.b book.held))
    (cond (ltb 0 (first_bad_line book.version book.b book.lines)) (refused 7 (first_bad_line book.version book.b book.lines))
    (Good (counts_of book)))))))

-- and where something that a call is lent beside the book may be outside, which is 4 as well: the version comes before it
unfoldable pub test_beside : Bool → Lent → Tested
unfolding test_of
test_beside outside book = cond (version_out book.version) (refused 3 0) (cond outside (refused 4 0) (test_of book))

-- "Each call tests all that it is lent": what a call gives of a book that is refused, and what of one that is good
abbrev pub if_good : {A : Type 0} → Tested → (Told → A) → (Book → A) → A
if_good (Refused r) refuse go = refuse r
if_good (Good k) refuse go = go k
