-- What re-run and withdrawal answer, and what the book's lines and its kept report then hold: refusals 3, 4, 6, 7, 8 and 9.
-- Assumes nothing.
use Rattle.std.specs.Prelude.{Bool, cond, ◌||◌, List, ◌++◌, ℕ, ◌-◌, length, drop, set, replicate, ℤ, pos, nat_abs}
use Rattle.laws.specs.Tests.{out_z, eq_z}
use Rattle.book.specs.Line.{place, difference_field, standing_field, line_count, standing_at, difference_out}
use Rattle.book.specs.Lent.{Lent}
use Rattle.book.specs.Test.{refusal, test_of, test_beside, if_good}
use Rattle.book.specs.declared.Book.{Book}
use Rattle.book.specs.Test.{Tested}
unfoldable pub use Rattle.kept.specs.Other.{same_numbers, other_report}
use Rattle.loops.specs.Report.{report_of}
use Rattle.survey.specs.Report.{refused_with, counted}
use Rattle.survey.specs.Report.{Answer}

-- the answer, and lines and report after the call
pub record Corrected : Type 0 where
  pub answer : Answer
  pub lines : List ℤ
  pub report : List ℤ

abbrev pub corrected : Answer → List ℤ → List ℤ → Corrected
corrected a lines report = record { answer = a; lines = lines; report = report }

-- "no such line .. also a withdrawn line": the line of this number does not stand
unfoldable pub no_line : List ℤ → ℤ → Bool
no_line lines number = out_z (pos 1) (pos (line_count lines)) number || eq_z (standing_at lines (nat_abs number - 1)) (pos 0)

-- the kept report brought up to date: the rows of the book as it then stands; "if the loops become one fewer, the vacated last row
-- becomes zeros"; places past the old rows unchanged
unfoldable pub updated : List ℤ → List ℤ → List ℤ → List ℤ
updated report old new = new ++ replicate (length old - length new) (pos 0) ++ drop (length old) report

-- a correction of a good book's line makes its lines new
unfoldable pub correct_good : Book → List ℤ → List ℤ → ℤ → List ℤ → Corrected
unfolding no_line other_report updated report_of counted
correct_good k lines report number new =
    let before = report_of k.marks k.tolerance lines in
    cond (no_line lines number) (corrected (refused_with (refusal 8 0)) lines report)
    (cond (other_report report before) (corrected (refused_with (refusal 9 0)) lines report)
    (corrected (counted k.marks new) new (updated report before (report_of k.marks k.tolerance new))))

-- and of a lent book's, by what its test gave
unfoldable pub correct_of : Tested → Lent → List ℤ → ℤ → List ℤ → Corrected
unfolding correct_good
correct_of tested book report number new =
    if_good tested (λ r. corrected (refused_with r) book.lines report)
    (λ k. correct_good k book.lines report number new)

-- the place in the slice of a line's k-th number, by the line's number from 1
abbrev pub place_of : ℤ → ℕ → ℕ
place_of number k = place (nat_abs number - 1) k

-- "Re-run sets the line's difference to the new one .. and nothing else in the book changes"
unfoldable pub rerun_lines : List ℤ → ℤ → ℤ → List ℤ
rerun_lines lines number difference = set lines (place_of number difference_field) difference

-- "withdrawal its standing to 0"
unfoldable pub withdraw_lines : List ℤ → ℤ → List ℤ
withdraw_lines lines number = set lines (place_of number standing_field) (pos 0)

-- 4 is also "a new difference outside its limit"
unfoldable pub rerun_of : Lent → List ℤ → ℤ → ℤ → Corrected
unfolding correct_of rerun_lines difference_out test_beside
rerun_of book report number difference =
    correct_of (test_beside (difference_out difference) book) book report number (rerun_lines book.lines number difference)

unfoldable pub withdraw_of : Lent → List ℤ → ℤ → Corrected
unfolding correct_of withdraw_lines test_of
withdraw_of book report number = correct_of (test_of book) book report number (withdraw_lines book.lines number)
