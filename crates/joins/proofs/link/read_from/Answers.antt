use Rattle.std.proofs.Common.{sym, ◌∙◌}
use lib.Dec.{eqb}
use borrow.Author.Tests.{eq-eqb, ne_eqb}
use Rattle.joins.proofs.Moves.{first_at, turns_it, lets_it}
use Rattle.joins.proofs.link.read_from.Goals as goal

pub returns-then-first-m : goal.returns-then-first-m
returns-then-first-m c =
    turns_it (λ x. eqb x.first c.args.m) _ _ _
    (λ before x after e h. ne_eqb _ _ (λ z. c.if-first-m.true (c.first.ensures ∙ first_at before x after _ _ _ e h ∙ z)))
    _ _ c.turn.ensures

pub returns-else-first-m : goal.returns-else-first-m
returns-else-first-m c =
    lets_it (λ x. eqb x.first c.args.m) _ _ _
    (λ before x after e h. eq-eqb _ _ (sym (c.first.ensures ∙ first_at before x after _ _ _ e h) ∙ c.if-first-m.false))
