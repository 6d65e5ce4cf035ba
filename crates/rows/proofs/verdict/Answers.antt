use Rattle.std.proofs.Common.{rules, sym, ◌∙◌}
use Rattle.rows.proofs.Totals.{verdict_big, verdict_within, verdict_over}
use Rattle.rows.proofs.verdict.Goals as goal

pub returns-then-size-ge-SQUARE_LIMIT : goal.returns-then-size-ge-SQUARE_LIMIT
returns-then-size-ge-SQUARE_LIMIT c =
    sym (verdict_big _ _ c.magnitude-size.result (c.magnitude-size.ensures ∙ search rules) c.requires c.if-size-ge-SQUARE_LIMIT.true)

pub returns-then-size-allowed : goal.returns-then-size-allowed
returns-then-size-allowed c =
    sym (verdict_within _ _ c.magnitude-size.result (c.magnitude-size.ensures ∙ search rules) c.if-size-allowed.true)

pub returns : goal.returns
returns c =
    sym (verdict_over _ _ c.magnitude-size.result (c.magnitude-size.ensures ∙ search rules) c.if-size-allowed.false)
