use mathlib.Core.Path.{◌≡◌, sym, ◌∙◌, ap, subst}
use Rattle.book.specs.Lent.{lent}
use Rattle.adjust.specs.Call.{Given, adjust_of}
use Rattle.level.specs.Heights.{SmallAdjusted, of_adjust}
use Rattle.level.proofs.Settled.{adjust_small}
use Rattle.adjust.specs.Answers.{answer_by}
use borrow.Author.Rules.{rules}
use Rattle.level.proofs.level_adjust.Statement.{statement}
use Rattle.level.proofs.level_adjust.Tie as tie

-- what the call below answered, at the numbers that were lent
called : (c : tie.After-adjust)
    → (let a = c.args in answer_by c.adjust.result
    ≡ (adjust_of (lent a.version a.b a.t a.held.now a.lines.now) a.heights.now).answer)
called c = ap (λ (o : Given). o.answer) c.adjust.ensures ∙ search rules

adjust-answer-requires : tie.Need-adjust_answer-requires
adjust-answer-requires c κs =
    let r = c.before in
    let s = r.before.before in
    let a = s.args in
    subst SmallAdjusted (sym (called r)) (adjust_small (lent a.version a.b a.t a.held.now a.lines.now) a.heights.now)

returns : tie.Need-returns
returns c = rw c.adjust_answer.ensures (ap of_adjust c.adjust.ensures ∙ search rules)

pub level_adjust_spec : {M : Type 1} → statement M
level_adjust_spec = tie.close (tie.spec (λ c κs. search rules) adjust-answer-requires (λ c. search rules) returns)
