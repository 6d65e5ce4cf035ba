use Rattle.std.proofs.Common.{rules, arith, ◌≡◌, ◌≤◌, nat_abs, neg_ℤ, to_z, of_z}
use lib.IntN.{+ℤ_idl}
use mir.Facts.{to_z-of_z}
use mir.Syntax.{w64}
use borrow.Author.Tests.{ne_eqb}
use Rattle.laws.proofs.Size.{size_neg, size_fits}
use Rattle.book.specs.Limits.{most_difference}
use Rattle.book.specs.Line.{difference_at}
use Rattle.rows.specs.Sums.{line_of, rise_by}
use Rattle.rows.proofs.Totals.{line_there}
use Rattle.rows.proofs.rise_by.Goals as goal

pub returns-then-code-eq0 : goal.returns-then-code-eq0
unfolding rise_by
returns-then-code-eq0 c = search rules

-- a difference is small, so that it can be turned
pub returns-else-code-eq0 : goal.returns-else-code-eq0
unfolding rise_by
returns-else-code-eq0 c =
    let d = difference_at c.args.lines.now (line_of c.args.code) in
    let small : nat_abs d ≤ most_difference = c.requires.measured.differences _ (line_there c.requires.runs) in
    let read : to_z w64 (of_z w64 d) ≡ d = search rules in
    rw (read, +ℤ_idl (neg_ℤ d), ne_eqb _ _ c.if-code-eq0.false) (to_z-of_z (size_fits (neg_ℤ d) (rw size_neg (omega arith))))
