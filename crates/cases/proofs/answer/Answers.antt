use Rattle.std.proofs.Common.{sym}
use Rattle.cases.specs.Shown.{IsAnswered}
use Rattle.cases.proofs.AllShown.{on_ok}
use Rattle.cases.proofs.answer.Goals as goal

pub returns : goal.returns
returns g c =
    let answered : IsAnswered g.F.FnOnce c.args.show (g.R.Read.remaining c.args.input) c.args.most = record {
      to = _;
      lent = _;
      left = _;
      reads = rw (sym c.as_slice.ensures.value) at c.in_ok-bytes.ensures;
      called = c.in_ok-show.ensures;
    } in
    on_ok c.flush.result answered
