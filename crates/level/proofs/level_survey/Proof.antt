use mathlib.Core.Path.{◌≡◌, sym, ◌∙◌, ap, subst}
use Rattle.book.specs.Lent.{lent}
use Rattle.survey.specs.Survey.{Surveyed, survey_of}
use Rattle.level.specs.Answers.{SmallAnswer, of_survey}
use Rattle.level.proofs.Small.{survey_small}
use Rattle.survey.specs.Report.{answer_of}
use borrow.Author.Rules.{rules}
use Rattle.level.proofs.level_survey.Statement.{statement}
use Rattle.level.proofs.level_survey.Tie as tie

-- what the call below answered, at the numbers that were lent
called : (c : tie.After-survey)
    → (let a = c.args in answer_of c.survey.result
    ≡ (survey_of (lent a.version a.b a.t a.held.now a.lines.now) a.rows.now).answer)
called c = ap (λ (o : Surveyed). o.answer) c.survey.ensures ∙ search rules

survey-answer-requires : tie.Need-survey_answer-requires
survey-answer-requires c κs =
    let r = c.before in
    let a = r.args in
    subst SmallAnswer (sym (called r)) (survey_small (lent a.version a.b a.t a.held.now a.lines.now) a.rows.now)

returns : tie.Need-returns
returns c = rw c.survey_answer.ensures (ap of_survey c.survey.ensures ∙ search rules)

pub level_survey_spec : {M : Type 1} → statement M
level_survey_spec = tie.close (tie.spec (λ c κs. search rules) survey-answer-requires (λ c. search rules) returns)
