use Rattle.fields.specs.Heights.{Working}
use Rattle.sights.specs.Table.{columns, rows}
use Rattle.sweeps.specs.Sweeps.{settle}
use Rattle.sweeps.specs.MarkTurns.{flags}
use Rattle.sweeps.proofs.States.{Left}
use Rattle.sweeps.proofs.settle.Given as goal

abbrev pub invariant-loop-n : goal.invariant-loop-n
invariant-loop-n l =
    let sights = rows l.first (columns l.other l.rise l.weight) in
    record {
      working : Working l.h l.b;
      left : Left sights (flags l.held) l.b l.n l.h (settle sights (flags l.held) l.b l.fn.h);
    }
