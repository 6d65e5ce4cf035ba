use native.Mathlib.Omega.{arith}
use Rattle.search.proofs.Ways.{walk_end, walk_put}
use Rattle.search.proofs.+way.Goals as goal

pub returns-then-key-eq0 : goal.returns-then-key-eq0
returns-then-key-eq0 t c = λ hs w. walk_end w (omega arith) _ _

pub returns : goal.returns
returns t c = walk_put _ _ _ _ _ (λ e. omega arith) c.way.ensures
