use Rattle.std.proofs.Common.{add-one}
use borrow.Author.Tests.{lt-ltb, le-ltb}
use Rattle.divisions.specs.Nearest.{nearest_size}
use Rattle.divisions.proofs.Quotients.{quotient_is, remainder_is}
use Rattle.divisions.proofs.nearest_size.Goals as goal

pub returns-then-d-divided : goal.returns-then-d-divided
unfolding nearest_size
returns-then-d-divided c =
    let divided = c.divide-divided.ensures in
    rw (quotient_is _ _ _ _ divided, add-one, lt-ltb _ _ (rw (remainder_is _ _ _ _ divided) at c.if-d-divided.true))

pub returns-else-d-divided : goal.returns-else-d-divided
unfolding nearest_size
returns-else-d-divided c =
    let divided = c.divide-divided.ensures in
    rw (quotient_is _ _ _ _ divided, le-ltb _ _ (rw (remainder_is _ _ _ _ divided) at c.if-d-divided.false))
