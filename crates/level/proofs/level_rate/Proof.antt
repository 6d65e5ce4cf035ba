use mathlib.Core.Path.{◌≡◌, sym, ◌∙◌, ap, subst}
use Rattle.book.specs.Lent.{lent}
use Rattle.rates.specs.Rates.{answer_of, rate_answer}
use Rattle.level.specs.Rating.{SmallRate, signed_rate}
use Rattle.level.proofs.Small.{rate_small}
use borrow.Author.Rules.{rules}
use Rattle.level.proofs.level_rate.Statement.{statement}
use Rattle.level.proofs.level_rate.Tie as tie

-- what the call below answered, at the numbers that were lent
called : (c : tie.After-rate)
    → (let a = c.args in
    answer_of c.rate.result ≡ rate_answer (lent a.version a.b a.t a.held.now a.lines.now) a.heights.now
    a.line)
called c = c.rate.ensures ∙ search rules

rate-answer-requires : tie.Need-rate_answer-requires
rate-answer-requires c κs =
    let a = c.args in
    subst SmallRate (sym (called c))
    (rate_small (lent a.version a.b a.t a.held.now a.lines.now) a.heights.now a.line)

returns : tie.Need-returns
returns c = c.rate_answer.ensures ∙ ap signed_rate (called c.before)

pub level_rate_spec : {M : Type 1} → statement M
level_rate_spec = tie.close (tie.spec (λ c κs. search rules) rate-answer-requires returns)
