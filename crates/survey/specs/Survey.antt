-- What the survey answers, and what the lent rows then hold: refusals 3, 4, 6, 7 and 10.
-- Assumes nothing.
use Rattle.std.specs.Prelude.{cond, List, ◌++◌, ltb, length, drop, ℤ}
use Rattle.book.specs.Lent.{Lent}
use Rattle.book.specs.Test.{refusal, test_of, if_good}
use Rattle.book.specs.declared.Book.{Book}
use Rattle.loops.specs.Report.{report_of}
use Rattle.survey.specs.Report.{refused_with, counted}
use Rattle.survey.specs.Report.{Answer}

-- the answer, and the rows after the call
pub record Surveyed : Type 0 where
  pub answer : Answer
  pub rows : List ℤ

abbrev pub surveyed : Answer → List ℤ → Surveyed
surveyed a out = record { answer = a; rows = out }

-- of a good book: 10, or its report, "Output places past the answer stay unchanged"
unfoldable pub survey_good : Book → List ℤ → List ℤ → Surveyed
unfolding report_of counted
survey_good k lines out =
    let report = report_of k.marks k.tolerance lines in
    cond (ltb (length out) (length report)) (surveyed (refused_with (refusal 10 0)) out)
    (surveyed (counted k.marks lines) (report ++ drop (length report) out))

unfoldable pub survey_of : Lent → List ℤ → Surveyed
unfolding survey_good test_of
survey_of book out =
    if_good (test_of book) (λ r. surveyed (refused_with r) out)
    (λ k. survey_good k book.lines out)
