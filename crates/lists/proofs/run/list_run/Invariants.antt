use Rattle.std.proofs.Common.{map}
use Rattle.laws.proofs.Laid.{Laid}
use Rattle.lists.specs.Run.{listed_by}
use Rattle.lists.proofs.run.list_run.Given as goal

-- the lines before this one are listed
abbrev pub invariant-loop-i : goal.invariant-loop-i
invariant-loop-i l = Laid (map listed_by l.run) l.initial.out l.out l.i
