use Rattle.std.proofs.Common.{arith, ◌≡◌, ◌<◌, sym, ◌∙◌, ap, is_some}
use Rattle.laws.specs.Scan.{first_bad}
use Rattle.start.specs.Along.{unheld}
use Rattle.start.proofs.Lifting.{lift_none}
use Rattle.start.proofs.Starting.{unheld_is, start_is}
use Rattle.fields.proofs.Named.{none_is_zero, some_not_zero}
use Rattle.start.proofs.raise_in.Goals as goal

pub lift_all-requires-clause-given : goal.lift_all-requires-clause-given
lift_all-requires-clause-given c = lift_none _ _ _ _ _ _ _ c.requires.blank

pub returns-then-is_none : goal.returns-then-is_none
returns-then-is_none c =
    let n = first_bad (unheld c.args.root.now c.lift_all.new.has) c.args.b in
    let e = c.first_unheld-unheld.ensures in
    let z : n ≡ 0 = none_is_zero n (sym (ap is_some e) ∙ c.if-is_none.ensures) in (
      n,
      e,
      λ at p held g. (
        unheld_is c.args.b at held _ _ _ _ _ _ p g c.lift_all.ensures,
        λ q v h. c.begin.ensures.each v h ∙ start_is c.args.b at held _ _ _ _ _ _ p g c.lift_all.ensures z v h,
        c.begin.ensures.all,
      ),
    )

pub returns-else-is_none : goal.returns-else-is_none
returns-else-is_none c =
    let n = first_bad (unheld c.args.root.now c.lift_all.new.has) c.args.b in
    let e = c.first_unheld-unheld.ensures in
    let s : 0 < n = some_not_zero n (sym (ap is_some e) ∙ c.if-is_none.ensures) in (
      n,
      e,
      λ at p held g. (
        unheld_is c.args.b at held _ _ _ _ _ _ p g c.lift_all.ensures,
        λ q. absurd (omega (arith, s, q)),
        c.requires.all,
      ),
    )
