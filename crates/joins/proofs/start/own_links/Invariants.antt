use Rattle.std.proofs.Common.{◌≤◌}
use Rattle.joins.proofs.Starting.{BegunTo}
use Rattle.joins.proofs.start.own_links.Given as goal

abbrev pub invariant-loop-i : goal.invariant-loop-i
invariant-loop-i l = record { few : l.links ≤ l.i; begun : BegunTo l.lines l.i l.links l.rows l.runs }
