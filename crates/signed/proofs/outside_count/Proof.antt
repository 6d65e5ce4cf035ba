use borrow.Author.Tests.{lt-ltb, le-ltb}
use Rattle.laws.specs.Tests.{out_n}
use Rattle.signed.proofs.outside_count.Statement.{statement}
use Rattle.signed.proofs.outside_count.Tie as tie

-- src/lib.rt:32:1
returns : tie.Need-returns-then-n-lo
unfolding out_n
returns c = rw (lt-ltb _ _ c.if-n-lo.true)

-- src/lib.rt:32:1
returns-2 : tie.Need-returns-else-n-lo
unfolding out_n
returns-2 c = rw (le-ltb _ _ c.if-n-lo.false)

pub outside_count_spec : {M : Type 1} → statement M
outside_count_spec = tie.close (tie.spec returns returns-2)
