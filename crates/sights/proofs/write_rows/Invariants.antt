use Rattle.std.proofs.Common.{◌≡◌, length}
use Rattle.network.specs.Standing.{standing}
use Rattle.sights.specs.Sights.{sights_of}
use Rattle.sights.specs.Table.{columns, Rowed, RoomRows}
use Rattle.sights.proofs.write_rows.Given as goal

-- no array grows shorter, so there is still room for all rows
abbrev pub invariant-loop-v : goal.invariant-loop-v
invariant-loop-v l = record {
  long : length l.weight ≡ length l.fn.weight;
  room : RoomRows (sights_of (standing l.lines)) l.first (columns l.other l.rise l.weight) l.total l.b;
  rowed : Rowed (sights_of (standing l.lines)) l.first (columns l.other l.rise l.weight) l.total l.b l.v l.c;
}
