use Rattle.std.proofs.Common.{sym}
use Rattle.cases.specs.Shown.{CasesShown}
use Rattle.cases.proofs.AllShown.{on_ok}
use Rattle.cases.proofs.run.Goals as goal

pub returns : goal.returns
unfolding CasesShown
returns g c =
    on_ok c.flush.result (_, _, _, rw (sym c.as_slice.ensures.value) at c.in_ok-bytes.ensures, c.in_ok-show_cases.ensures)
