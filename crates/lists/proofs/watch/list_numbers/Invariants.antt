use Rattle.std.proofs.Common.{map, pos}
use Rattle.laws.proofs.Laid.{Laid}
use Rattle.lists.proofs.watch.list_numbers.Given as goal

-- the numbers before this one are listed
abbrev pub invariant-loop-i : goal.invariant-loop-i
invariant-loop-i l = Laid (map pos l.list) l.initial.out l.out l.i
