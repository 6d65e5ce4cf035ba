use Rattle.std.proofs.Common.{arith}
use Rattle.search.proofs.Direct.{direct_of, least_half}
use Rattle.search.proofs.direct_half.Goals as goal

pub returns-then-ends-h-clause-is_half : goal.returns-then-ends-h-clause-is_half
returns-then-ends-h-clause-is_half c = least_half (c.requires.heads.chained _ c.requires.two.r_ok).chain c.least_sum-s.ensures (omega arith)

pub returns-then-ends-h-clause-direct : goal.returns-then-ends-h-clause-direct
returns-then-ends-h-clause-direct c = direct_of _ _ _ _ _ _ _ c.requires.two c.least_sum-s.ensures (omega arith) c.if-ends-h.true
