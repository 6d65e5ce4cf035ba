use Rattle.std.proofs.Common.{◌∙◌, arith}
use lib.Dec.{leb}
use borrow.Author.Tests.{le-leb, lt-leb}
use Rattle.joins.proofs.Moves.{first_at, last_at, turns_it, lets_it}
use Rattle.joins.proofs.link.lower_first.Goals as goal

pub returns-then-last-first : goal.returns-then-last-first
returns-then-last-first c =
    turns_it (λ x. leb x.first x.last) _ _ _
    (λ before x after e h.
    let f = c.first.ensures ∙ first_at before x after _ _ _ e h in
    let l = c.last.ensures ∙ last_at before x after _ _ _ e h in
    lt-leb x.first x.last (omega (arith, c.if-last-first.true)))
    _ _ c.turn.ensures

pub returns-else-last-first : goal.returns-else-last-first
returns-else-last-first c =
    lets_it (λ x. leb x.first x.last) _ _ _
    (λ before x after e h.
    let f = c.first.ensures ∙ first_at before x after _ _ _ e h in
    let l = c.last.ensures ∙ last_at before x after _ _ _ e h in
    le-leb x.first x.last (omega (arith, c.if-last-first.false)))
