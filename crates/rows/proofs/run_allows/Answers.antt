use Rattle.std.proofs.Common.{rules, arith, ◌≡◌, ◌∙◌, sym, ◌^◌, ◌<◌, sum_by}
use Rattle.std.proofs.lemmas.Iterator.{YieldsList-from_slice}
use Rattle.std.proofs.lemmas.Iterator.Adapters.{serves_from_places}
use Rattle.rows.specs.Sums.{allows_by, allows_of}
use Rattle.rows.proofs.Totals.{sum_same, run_there, allowed_size}
use Rattle.rows.proofs.run_allows.Goals as goal

-- each code of the run runs a line
pub sum-requires-clause-can : goal.sum-requires-clause-can
sum-requires-clause-can c = (
  tt,
  serves_from_places (YieldsList-from_slice c.args.run.now cc) (λ x q e. search rules)
      (λ x k lt is. let runs = run_there c.requires.in_book k x.now lt is in search rules),
)

pub sum-requires-clause-fits : goal.sum-requires-clause-fits
sum-requires-clause-fits c =
    let small : sum_by (allows_by c.args.t c.args.lines.now) c.args.run.now < 2 ^ 64 =
    omega (arith, allowed_size _ _ c.requires.measured c.requires.in_book _ c.requires.tolerable) in
    search rules

pub returns : goal.returns
unfolding allows_of
returns c =
    let is : c.sum.result ≡ sum_by (allows_by c.args.t c.args.lines.now) c.args.run.now = search rules in
    (is ∙ sym (sum_same _ _), omega (arith, is, allowed_size _ _ c.requires.measured c.requires.in_book _ c.requires.tolerable))
