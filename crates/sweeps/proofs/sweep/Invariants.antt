use Rattle.std.proofs.Common.{◌≡◌, Ok}
use Rattle.fields.specs.Heights.{Working}
use Rattle.sights.specs.Table.{columns, rows}
use Rattle.sweeps.specs.Sweeps.{sweep}
use Rattle.sweeps.specs.MarkTurns.{flags, swept}
use Rattle.sweeps.proofs.sweep.Given as goal

abbrev pub invariant-loop-v : goal.invariant-loop-v
invariant-loop-v l = record {
  same : swept (Ok l.moved) l.h ≡ sweep (rows l.first (columns l.other l.rise l.weight)) (flags l.held) l.fn.h l.v;
  working : Working l.h l.b;
}
