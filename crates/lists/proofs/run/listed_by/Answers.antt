use Rattle.std.proofs.Common.{rules, arith, ◌≡◌, ◌/◌, ◌<◌, ◌^◌, pos, nat_abs, neg_ℤ, to_z, of_z}
use lib.IntN.{+ℤ_idl}
use mir.Facts.{to_z-of_z}
use mir.Syntax.{w64}
use borrow.Author.Tests.{ne_eqb}
use Rattle.laws.proofs.Size.{size_neg, size_fits}
use Rattle.lists.specs.Run.{listed_by}
use Rattle.lists.proofs.run.listed_by.Goals as goal

pub returns-then-code-eq0 : goal.returns-then-code-eq0
unfolding listed_by
returns-then-code-eq0 c = search rules

pub returns-else-code-eq0 : goal.returns-else-code-eq0
unfolding listed_by
returns-else-code-eq0 c =
    let n = pos (c.args.code / 2) in
    let read : to_z w64 (of_z w64 c.from-number.result) ≡ n = search rules in
    let small : nat_abs n < 2 ^ 63 = omega arith in
    rw (read, +ℤ_idl (neg_ℤ n), ne_eqb _ _ c.if-code-eq0.false) (to_z-of_z (size_fits (neg_ℤ n) (rw size_neg small)))
