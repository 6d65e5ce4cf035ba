use mathlib.Core.Path.{◌≡◌, sym, ◌∙◌, ap, subst}
use Rattle.book.specs.Lent.{lent}
use Rattle.survey.specs.Correction.{Corrected, withdraw_of}
use Rattle.level.specs.Answers.{SmallAnswer, of_correction}
use Rattle.level.proofs.Small.{withdraw_small}
use Rattle.survey.specs.Report.{answer_of}
use borrow.Author.Rules.{rules}
use Rattle.level.proofs.level_withdraw.Statement.{statement}
use Rattle.level.proofs.level_withdraw.Tie as tie

-- what the call below answered, at the numbers that were lent
called : (c : tie.After-withdraw)
    → (let a = c.args in answer_of c.withdraw.result
    ≡ (withdraw_of (lent a.version a.b a.t a.held.now a.lines.now) a.report.now a.line).answer)
called c = ap (λ (o : Corrected). o.answer) c.withdraw.ensures ∙ search rules

survey-answer-requires : tie.Need-survey_answer-requires
survey-answer-requires c κs =
    let r = c.before.before in
    let a = r.args in
    subst SmallAnswer (sym (called r))
    (withdraw_small (lent a.version a.b a.t a.held.now a.lines.now) a.report.now a.line)

returns : tie.Need-returns
returns c = rw c.survey_answer.ensures (ap of_correction c.withdraw.ensures ∙ search rules)

pub level_withdraw_spec : {M : Type 1} → statement M
level_withdraw_spec =
    tie.close (tie.spec (λ c κs. search rules) survey-answer-requires (λ c. search rules) (λ c. search rules) returns)
