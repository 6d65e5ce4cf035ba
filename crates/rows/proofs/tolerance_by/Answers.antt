use Rattle.std.proofs.Common.{rules}
use Rattle.rows.specs.Sums.{tolerance_by}
use Rattle.rows.proofs.tolerance_by.Goals as goal

pub returns : goal.returns
unfolding tolerance_by
returns c = search rules
