use Rattle.std.proofs.Common.{◌≡◌, ◌≤◌, false}
use Rattle.laws.proofs.Scans.{Scanned}
use Rattle.book.specs.Held.{mark_at, held_before, held_bad}
use Rattle.book.proofs.held.first_bad_held.Given as goal

-- the entries before place j have other marks
abbrev pub invariant-loop-j : goal.invariant-loop-j
invariant-loop-j l = held_before l.held (mark_at l.held l.i) l.j ≡ false

-- the entries before place i are good
abbrev pub invariant-loop-i : goal.invariant-loop-i
invariant-loop-i l = Scanned (held_bad l.b l.held) l.i-end l.i
