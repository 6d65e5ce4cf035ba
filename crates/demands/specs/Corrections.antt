-- Corrections of a surveyed book: re-runs and withdrawals, one after the other.
-- Assumes nothing.
use Rattle.std.specs.Prelude.{◌≡◌, List, [], ◌∷◌, ◌++◌, ℕ, ◌-◌, ◌≤◌, ℤ, pos, nat_abs, length, get_or, drop, replicate}
use Rattle.book.specs.Lent.{Lent, with_lines}
use Rattle.book.specs.Test.{test_of}
use Rattle.book.specs.declared.Book.{Book}
use Rattle.book.specs.Test.{Good}
use Rattle.survey.specs.Survey.{surveyed, survey_of}
use Rattle.survey.specs.Report.{counted}
use Rattle.survey.specs.Correction.{Corrected, rerun_of, withdraw_of}
pub use Rattle.survey.specs.Stands.{Stands}
use Rattle.demands.specs.Calls.{afresh}

-- a correction of the line of this number is acceptable: the lent book passes the test, the line stands, and the lent report begins with
-- the book's rows
pub record Acceptable (book : Lent) (report : List ℤ) (number : ℤ) : Type 0 where
  pub counts : Book
  pub passes : test_of book ≡ Good counts
  pub line : ℕ
  pub stands : Stands book.lines number line
  pub its_report : report ≡ afresh book ++ drop (length (afresh book)) report

-- the number at place p is now v, and nothing else has changed
pub record OnlyChange (before after : List ℤ) (p : ℕ) (v : ℤ) : Type 0 where
  pub same_length : length after ≡ length before
  pub changed : get_or after p (pos 0) ≡ v
  pub others_kept : (q : ℕ) → (q ≡ p → ⊥) → get_or after q (pos 0) ≡ get_or before q (pos 0)

-- a correction: the line re-run and its new difference, or the line withdrawn
pub data Step : Type 0 where
  rerun : ℤ → ℤ → Step
  withdraw : ℤ → Step

-- what a correction of the book answers, and its lines and report after it
abbrev pub correct : Lent → List ℤ → Step → Corrected
correct book report (rerun line difference) = rerun_of book report line difference
correct book report (withdraw line) = withdraw_of book report line

-- the book as a correction leaves it
abbrev pub corrected_book : Lent → List ℤ → Step → Lent
corrected_book book report s = with_lines book (correct book report s).lines

-- corrections one after the other, each accepted (its number is 0) and made from the book and the report that the one before left; the
-- last leaves book' and report'
pub data Accepted : Lent → List ℤ → List Step → Lent → List ℤ → Type 0 where
  no_more : {book : Lent} {report : List ℤ} → Accepted book report [] book report
  accepted : {book book' : Lent} {report report' : List ℤ} {s : Step} {steps : List Step}
      → (correct book report s).answer.refusal.number ≡ 0
      → Accepted (corrected_book book report s) (correct book report s).report steps book' report'
      → Accepted book report (s ∷ steps) book' report'

-- book and report after corrections one after the other, accepted or refused
unfoldable pub book_after : Lent → List ℤ → List Step → Lent
book_after book report [] = book
book_after book report (s ∷ steps) = book_after (corrected_book book report s) (correct book report s).report steps

unfoldable pub report_after : Lent → List ℤ → List Step → List ℤ
report_after book report [] = report
report_after book report (s ∷ steps) = report_after (corrected_book book report s) (correct book report s).report steps

-- the kept report is true after corrections that made `book` into book', where `out` was lent to the first survey: it begins with the
-- report of the corrected book worked out afresh, then come zeros in the vacated rows, and all places past the first survey's rows are as
-- they were; so 9 cannot refuse the next correction, and a survey of the corrected book into it changes nothing
pub record KeptTrue (book : Lent) (out : List ℤ) (book' : Lent) (report' : List ℤ) : Type 0 where
  pub still_good : test_of book' ≡ test_of book
  pub no_more_rows : length (afresh book') ≤ length (afresh book)
  pub report_is :
      report' ≡ afresh book' ++ replicate (length (afresh book) - length (afresh book')) (pos 0) ++ drop (length (afresh book)) out
  pub its_report_still : report' ≡ afresh book' ++ drop (length (afresh book')) report'
  pub surveyed_again : survey_of book' report' ≡ surveyed (counted (nat_abs book'.b) book'.lines) report'
