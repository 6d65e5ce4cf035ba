use Rattle.std.proofs.Common.{pos}
use lib.ListN.{get_or}
use Rattle.laws.proofs.Scans.{Scanned}
use Rattle.book.specs.Height.{work_height_out}
use Rattle.rates.proofs.test_heights.Given as goal

-- the heights before place i are inside
abbrev pub invariant-loop-i : goal.invariant-loop-i
invariant-loop-i l = Scanned (λ i. work_height_out (get_or l.heights i (pos 0))) l.i-end l.i
