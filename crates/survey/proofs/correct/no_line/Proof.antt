use Prim.Native.Nat.{◌-◌}
use mathlib.Core.Path.{◌≡◌, sym, ◌∙◌}
use native.Mathlib.Omega.{arith}
use lib.IntN.{pos, nat_abs}
use Rattle.laws.specs.Tests.{out_z, eq_z}
use Rattle.laws.proofs.Signed.{stored}
use Rattle.laws.proofs.Tests.{or_here, or_next}
use Rattle.laws.specs.Range.{Between}
use Rattle.laws.proofs.Size.{between}
use Rattle.book.specs.Line.{line_count, standing_at}
use Rattle.survey.specs.Correction.{no_line}
use borrow.Author.Rules.{rules}
use Rattle.survey.proofs.correct.no_line.Statement.{statement}
use Rattle.survey.proofs.correct.no_line.Tie as tie

-- the flag that the code has is the definition's test
flag : (c : tie.After-outside)
    → (let a = c.args in c.outside.result ≡ out_z (pos 1) (pos (line_count a.lines.now)) a.number)
flag c =
    let n = c.before in
    (rw (stored _ n.signed_count.type_inv n.signed_count.ensures) at c.outside.ensures) ∙ search rules

-- there is a line of this number
inside : (c : tie.Else-outside) → (let a = c.args in Between 1 (line_count a.lines.now) a.number)
inside c = between 1 _ _ (sym (flag c.before) ∙ c.if-outside.false)

size : (c : tie.After-magnitude) → (let entry : tie.Start = search in c.magnitude.result ≡ nat_abs entry.args.number)
size c = c.magnitude.ensures ∙ search rules

returns : tie.Need-returns-then-outside
unfolding no_line
returns c = or_here _ (flag c.before) c.if-outside.true

-- the flag of a withdrawn line
gone : (c : tie.After-same)
    → (let entry : tie.Start = search in c.same.result ≡ eq_z
    (standing_at entry.args.lines.now (c.magnitude.result - 1)) (pos 0))
gone c = c.same.ensures ∙ search rules

returns-2 : tie.Need-returns
unfolding no_line
returns-2 c =
    let e = c.before.before.before in
    or_next (flag e.before) e.if-outside.false (rw (size c.before.before) at (gone c))

pub no_line_spec : {M : Type 1} → statement M
no_line_spec =
    tie.close
    (tie.spec
    (λ c κs. search rules)  -- signed_count-requires
    (λ c κs. search rules)  -- outside-requires
    returns
    (λ c κs. search rules)  -- magnitude-requires
    (λ c. let w = inside c.before in let m = size c in omega (arith, w.low))  -- overflow_sub-at
    (λ c. let w = inside c.before in let m = size c in omega (arith, w.low, w.high))  -- overflow_mul-at
    (λ c. let w = inside c.before in let m = size c in omega (arith, w.low, w.high))  -- overflow_add-at
    (λ c. let w = inside c.before in let m = size c in omega (arith, w.low, w.high))  -- offset_bounds-lines-at
    (λ c. let w = inside c.before in let m = size c in omega (arith, w.low, w.high))  -- bounds-lines-at
    (λ c κs. search rules)  -- same-requires
    returns-2)
