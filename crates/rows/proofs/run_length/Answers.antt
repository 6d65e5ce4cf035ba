use Rattle.std.proofs.Common.{rules, arith, ◌≡◌, ◌∙◌, sym, ◌^◌, ◌<◌, sum_by}
use Rattle.std.proofs.lemmas.Iterator.{YieldsList-from_slice}
use Rattle.std.proofs.lemmas.Iterator.Adapters.{serves_from_places}
use Rattle.rows.specs.Sums.{length_by, length_of}
use Rattle.rows.proofs.Totals.{sum_same, run_there, lengths_size}
use Rattle.rows.proofs.run_length.Goals as goal

-- each code of the run runs a line
pub sum-requires-clause-can : goal.sum-requires-clause-can
sum-requires-clause-can c = (
  tt,
  serves_from_places (YieldsList-from_slice c.args.run.now cc) (λ x q e. search rules)
      (λ x k lt is. let runs = run_there c.requires.run k x.now lt is in search rules),
)

pub sum-requires-clause-fits : goal.sum-requires-clause-fits
sum-requires-clause-fits c =
    let small : sum_by (length_by c.args.lines.now) c.args.run.now < 2 ^ 64 =
    omega (arith, lengths_size _ _ c.requires.measured c.requires.run) in
    search rules

pub returns : goal.returns
unfolding length_of
returns c =
    let is : c.sum.result ≡ sum_by (length_by c.args.lines.now) c.args.run.now = search rules in
    (is ∙ sym (sum_same _ _), omega (arith, is, lengths_size _ _ c.requires.measured c.requires.run))
