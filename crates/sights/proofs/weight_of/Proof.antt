use mathlib.Core.Path.{◌≡◌, ◌∙◌, ap}
use native.Mathlib.Omega.{arith}
use lib.IntN.{nat_abs}
use Rattle.laws.proofs.Signed.{back}
use Rattle.laws.proofs.Size.{not_negative}
use Rattle.book.specs.Line.{length_at}
use Rattle.divisions.specs.Weight.{weight_of}
use borrow.Author.Rules.{rules}
use Rattle.sights.proofs.weight_of.Statement.{statement}
use Rattle.sights.proofs.weight_of.Tie as tie

length-read : (c : tie.After-index)
    → (let s = c.before.before in c.index.result ≡ nat_abs (length_at s.args.lines.now s.args.i))
length-read c =
    let s = c.before.before in
    c.index.ensures ∙ rw (back (length_at s.args.lines.now s.args.i) c.index-arg-1.given)

index-requires : tie.Need-index-requires
index-requires c κs =
    let s = c.before in
    rw (back (length_at s.args.lines.now s.args.i) c.index-arg-1.given) (not_negative s.requires.good.long)

pub weight_of_spec : {M : Type 1} → statement M
weight_of_spec =
    tie.close
    (tie.spec
    (λ c. search rules)  -- overflow_mul-i
    (λ c. search rules)  -- overflow_add-i
    (λ c. search rules)  -- offset_bounds-lines-i
    (λ c. search rules)  -- bounds-lines-i
    index-requires
    (λ c κs. omega (arith, length-read c, c.requires.good.long.low))  -- weight-requires
    (λ c. c.weight.ensures ∙ ap weight_of (length-read c.before)))  -- returns
