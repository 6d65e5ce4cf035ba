use Rattle.std.proofs.Common.{rules}
use Rattle.rows.specs.Sums.{length_by}
use Rattle.rows.proofs.length_by.Goals as goal

pub returns : goal.returns
unfolding length_by
returns c = search rules
