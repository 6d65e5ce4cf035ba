use Rattle.std.proofs.Common.{arith, refl}
use Rattle.tree.specs.Plant.{by_line_lem, by_root, ended}
use Rattle.tree.proofs.sprout.Goals as goal

pub returns-then-m-ne0 : goal.returns-then-m-ne0
returns-then-m-ne0 c = by_line_lem _ c.turn-m.ensures (λ e. omega arith) refl refl

pub returns-in_default : goal.returns-in_default
returns-in_default c = ended _ c.turn-m.ensures (omega arith) c.in_default.ensures.first refl refl

pub returns : goal.returns
returns c = by_root _ _ _ c.turn-m.ensures (omega arith) c.in-Some.ensures.first c.in-Some.ensures.below c.relax.ensures refl
