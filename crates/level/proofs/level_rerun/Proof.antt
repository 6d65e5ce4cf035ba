use mathlib.Core.Path.{◌≡◌, sym, ◌∙◌, ap, subst}
use Rattle.book.specs.Lent.{lent}
use Rattle.survey.specs.Correction.{Corrected, rerun_of}
use Rattle.level.specs.Answers.{SmallAnswer, of_correction}
use Rattle.level.proofs.Small.{rerun_small}
use Rattle.survey.specs.Report.{answer_of}
use borrow.Author.Rules.{rules}
use Rattle.level.proofs.level_rerun.Statement.{statement}
use Rattle.level.proofs.level_rerun.Tie as tie

-- what the call below answered, at the numbers that were lent
called : (c : tie.After-rerun)
    → (let a = c.args in answer_of c.rerun.result
    ≡ (rerun_of (lent a.version a.b a.t a.held.now a.lines.now) a.report.now a.line a.difference).answer)
called c = ap (λ (o : Corrected). o.answer) c.rerun.ensures ∙ search rules

survey-answer-requires : tie.Need-survey_answer-requires
survey-answer-requires c κs =
    let r = c.before.before in
    let a = r.args in
    subst SmallAnswer (sym (called r))
    (rerun_small (lent a.version a.b a.t a.held.now a.lines.now) a.report.now a.line
    a.difference)

returns : tie.Need-returns
returns c = rw c.survey_answer.ensures (ap of_correction c.rerun.ensures ∙ search rules)

pub level_rerun_spec : {M : Type 1} → statement M
level_rerun_spec =
    tie.close (tie.spec (λ c κs. search rules) survey-answer-requires (λ c. search rules) (λ c. search rules) returns)
