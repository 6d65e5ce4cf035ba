-- The loop of `list_open`: the open numbers below `number` are written. Assumes nothing.
use Rattle.std.proofs.Common.{◌<◌}
use Rattle.unchecked.proofs.Listing.{Writing}
use Rattle.unchecked.proofs.list_open.Given as goal

abbrev pub invariant-loop-number : goal.invariant-loop-number
invariant-loop-number l = (l.c < l.number) × Writing l.ends l.marked l.q l.initial.out l.out l.c l.number
