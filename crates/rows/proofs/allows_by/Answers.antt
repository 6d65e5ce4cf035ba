use Rattle.std.proofs.Common.{arith, refl}
use Rattle.rows.specs.Sums.{allows_by}
use Rattle.rows.proofs.Totals.{allows_size}
use Rattle.rows.proofs.allows_by.Goals as goal

pub overflow_mul-result-2 : goal.overflow_mul-result-2
unfolding allows_by
overflow_mul-result-2 c =
    let small = allows_size _ _ _ c.requires.tolerable c.requires.measured c.requires.runs in
    rw (c.judged_as.ensures, c.length_by.ensures, c.tolerance_by-tolerance.ensures.0) (omega arith)

pub returns : goal.returns
unfolding allows_by
returns c =
    rw (c.judged_as.ensures, c.length_by.ensures, c.tolerance_by-tolerance.ensures.0)
    (refl, allows_size _ _ _ c.requires.tolerable c.requires.measured c.requires.runs)
