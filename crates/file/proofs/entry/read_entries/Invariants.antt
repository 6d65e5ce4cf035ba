use Rattle.std.proofs.Common.{◌≡◌, ◌*◌, ◌++◌, drop}
use Rattle.file.specs.Entry.{entries}
use Rattle.file.proofs.entry.read_entries.Given as goal

abbrev pub invariant-loop-i : goal.invariant-loop-i
invariant-loop-i l = l.out ≡ entries l.kind l.file l.a l.i ++ drop (l.i * l.words) l.initial.out
