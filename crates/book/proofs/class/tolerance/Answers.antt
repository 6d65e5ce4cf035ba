use Rattle.std.proofs.Common.{rules, ◌∙◌, ◌≡◌, ◌≤◌, ℕ, sym, subst}
use lib.IntN.{nat_abs}
use lib.ListN.{get_or}
use Rattle.laws.specs.Range.{Between}
use Rattle.laws.specs.Tests.{eq_z}
use Rattle.laws.proofs.Inside.{eq_z_true}
use Rattle.laws.proofs.Size.{not_negative}
use Rattle.book.specs.Limits.{least_class, most_class, most_tolerance}
use Rattle.book.specs.Version.{no_class, tolerances, tolerance_of}
use Rattle.book.proofs.Versions.{no_class_tolerance, in_table, class_tolerance, tolerance_at_most}
use Rattle.book.proofs.class.tolerance.Goals as goal

pub returns-then-same : goal.returns-then-same
returns-then-same c =
    let flag : c.same.result ≡ eq_z c.args.class no_class = c.same.ensures ∙ search rules in
    (sym (no_class_tolerance _ _ (eq_z_true _ no_class (sym flag ∙ c.if-same.true))), c.requires.small)

pub index-requires : goal.index-requires
index-requires c =
    let flag : c.same.result ≡ eq_z c.args.class no_class = c.same.ensures ∙ search rules in
    let looked_up : Between least_class most_class c.args.class = in_table _ c.requires.classed (sym flag ∙ c.if-same.false) in
    search (not_negative looked_up, rules)

pub returns : goal.returns
returns c =
    let flag : c.same.result ≡ eq_z c.args.class no_class = c.same.ensures ∙ search rules in
    let looked_up : Between least_class most_class c.args.class = in_table _ c.requires.classed (sym flag ∙ c.if-same.false) in
    let place : c.index.result ≡ nat_abs c.args.class = c.index.ensures ∙ search rules in
    let found : get_or tolerances c.index.result 0 ≡ tolerance_of c.args.t c.args.class
    = rw place (sym (class_tolerance c.args.t c.args.class looked_up)) in (
      found,
      subst (λ (n : ℕ). n ≤ most_tolerance) (sym found)
          (tolerance_at_most c.args.t c.args.class c.requires.small c.requires.classed),
    )
