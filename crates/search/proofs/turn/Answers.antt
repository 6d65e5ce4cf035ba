use Rattle.std.proofs.Common.{arith, refl}
use Rattle.search.specs.Front.{more}
use Rattle.search.proofs.turn.Goals as goal

pub returns : goal.returns
returns c = more refl (omega arith) c.close.new.s c.close.ensures (λ e. omega arith) c.relax.ensures
