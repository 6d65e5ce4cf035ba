use Rattle.std.proofs.Common.{◌≡◌, ◌*◌, ◌++◌, drop}
use Rattle.writer.specs.Entry.{written}
use Rattle.writer.proofs.entry.write_entries.Given as goal

abbrev pub invariant-loop-i : goal.invariant-loop-i
invariant-loop-i l = l.out ≡ written l.kind l.slice l.i ++ drop (l.i * l.bytes) l.initial.out
