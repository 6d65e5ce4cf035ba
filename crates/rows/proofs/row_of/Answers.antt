use Rattle.std.proofs.Common.{rules}
use Rattle.rows.specs.Sums.{row_of}
use Rattle.rows.proofs.row_of.Goals as goal

pub returns : goal.returns
unfolding row_of
returns c = search rules
