-- The kept report: whether it is the book's own, and how it is brought up to date.
-- Assumes nothing.
use Rattle.std.specs.Prelude.{ℕ, ◌-◌, ◌*◌, ◌≤◌, ◌≡◌, cond, List, ◌++◌, ℤ, pos, length, drop, replicate, Result, Ok, Err}
use Rattle.book.specs.Test.{refusal}
use Rattle.book.specs.Refusals.{Told, told_of}
use Rattle.book.specs.declared.refusal.Refusal.{Refusal}
use Rattle.book.specs.declared.Book.{Book}
use Rattle.loops.specs.Row.{row_words}
use Rattle.loops.specs.Loops.{Loop}
use Rattle.loops.specs.Report.{report_of}
use Rattle.loops.specs.Table.{Table}
use Rattle.table.specs.Filled.{found_in}
use Rattle.table.specs.declared.Found.{Found}
use Rattle.survey.specs.Report.{counted}
use Rattle.survey.specs.Correction.{no_line, other_report}
use Rattle.survey.specs.Report.{Answer}

-- the line stands and the lent report is the book's own, with these counts; or refusal 8 or 9
pub data Kept : Type 0 where
  Own : Found → Kept
  Refused : Told → Kept

abbrev pub kept : Result Found Refusal → Kept
kept (Ok found) = Own found
kept (Err r) = Refused (told_of r)

-- 8, 9, or what is found in the book
unfoldable pub kept_of : Book → List ℤ → List ℤ → ℤ → Kept
unfolding no_line other_report report_of
kept_of k lines report number =
    cond (no_line lines number) (Refused (refusal 8 0))
    (cond (other_report report (report_of k.marks k.tolerance lines)) (Refused (refusal 9 0))
    (Own (found_in k.marks lines)))

-- where nothing is refused, the table holds the loops
abbrev pub OwnTable : Kept → List Loop → List ℕ → List ℕ → Type 0
OwnTable kept ls starts runs = (found : Found) → kept ≡ Own found → Table ls starts runs found.count

-- before the report is brought up to date: it kept so many rows, and the book has no more now
pub record Refresh (k : Book) (lines report : List ℤ) (before : ℕ) : Type 0 where
  pub fewer : length (report_of k.marks k.tolerance lines) ≤ before * row_words
  pub places : before * row_words ≤ length report

-- and after: the rows of the book as it stands, zeros in vacated rows, the rest as it was
pub record Refreshed (k : Book) (lines report report' : List ℤ) (before : ℕ) (a : Answer) : Type 0 where
  pub answer : a ≡ counted k.marks lines
  pub report_is : report' ≡ report_of k.marks k.tolerance lines ++ replicate
      (before * row_words - length (report_of k.marks k.tolerance lines)) (pos 0) ++ drop (before * row_words) report
