-- What survey, re-run and withdrawal answer, with the numbers as int64, beside what the lent buffers then hold.
-- Assumes nothing.
use Rattle.std.specs.Prelude.{List, ℤ, pos}
use Rattle.survey.specs.Report as survey
use Rattle.survey.specs.Survey.{Surveyed}
use Rattle.survey.specs.Correction.{Corrected}
use Rattle.level.specs.Signed.{Small, SmallRefusal, signed_refusal}
use Rattle.level.specs.declared.Answer.{Answer}

pub record SmallAnswer (a : survey.Answer) : Type 0 where
  pub refusal : SmallRefusal a.refusal
  pub rows : Small a.rows
  pub pieces : Small a.pieces

unfoldable pub signed_answer : survey.Answer → Answer
signed_answer a =
    let r = signed_refusal a.refusal in
    record { number = r.number; place = r.place; rows = pos a.rows; pieces = pos a.pieces }

pub record SurveyNow : Type 0 where
  pub answer : Answer
  pub rows : List ℤ

abbrev pub survey_now : Answer → List ℤ → SurveyNow
survey_now a rows = record { answer = a; rows = rows }

abbrev pub of_survey : Surveyed → SurveyNow
of_survey o = survey_now (signed_answer o.answer) o.rows

pub record CorrectionNow : Type 0 where
  pub answer : Answer
  pub lines : List ℤ
  pub report : List ℤ

abbrev pub correction_now : Answer → List ℤ → List ℤ → CorrectionNow
correction_now a lines report = record { answer = a; lines = lines; report = report }

abbrev pub of_correction : Corrected → CorrectionNow
of_correction o = correction_now (signed_answer o.answer) o.lines o.report
