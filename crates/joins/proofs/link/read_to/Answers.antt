use Rattle.std.proofs.Common.{sym, ◌∙◌}
use lib.Dec.{eqb}
use borrow.Author.Tests.{eq-eqb, ne_eqb}
use Rattle.joins.proofs.Moves.{last_at, turns_it, lets_it}
use Rattle.joins.proofs.link.read_to.Goals as goal

pub returns-then-last-m : goal.returns-then-last-m
returns-then-last-m c =
    turns_it (λ x. eqb x.last c.args.m) _ _ _
    (λ before x after e h. ne_eqb _ _ (λ z. c.if-last-m.true (c.last.ensures ∙ last_at before x after _ _ _ e h ∙ z)))
    _ _ c.turn.ensures

pub returns-else-last-m : goal.returns-else-last-m
returns-else-last-m c =
    lets_it (λ x. eqb x.last c.args.m) _ _ _
    (λ before x after e h. eq-eqb _ _ (sym (c.last.ensures ∙ last_at before x after _ _ _ e h) ∙ c.if-last-m.false))
