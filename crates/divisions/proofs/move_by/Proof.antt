use mathlib.Core.Path.{◌≡◌, sym, ◌∙◌}
use Prim.Native.Nat.{◌<◌, ◌^◌}
use native.Mathlib.Omega.{arith}
use lib.IntN.{pos, nat_abs, +ℤ_idl}
use mir.Syntax.{w64}
use mir.Val.{to_z, of_z}
use mir.Facts.{to_z-of_z}
use Rattle.laws.proofs.Signed.{stored}
use Rattle.divisions.proofs.Rounding.{unmoved, nearest_le, of_negative, of_positive}
use borrow.Author.Rules.{rules}
use Rattle.divisions.proofs.move_by.Statement.{statement}
use Rattle.divisions.proofs.move_by.Tie as tie

size : (c : tie.After-magnitude-a) → c.magnitude-a.result ≡ nat_abs c.args.g
size c = rw (to_z-of_z c.ranges.g) at c.magnitude-a.ensures

-- a mark with a line has weights to divide by
weighed : (c : tie.Else-d-eq0) → 0 < c.args.d
weighed c = omega arith

small : (c : tie.After-nearest_size) → c.nearest_size.result < 2 ^ 63
small c =
    let h = nearest_le c.magnitude-a.result c.args.d (weighed c.before.before) in
    omega (arith, size c.before, c.nearest_size.ensures, c.requires.1.1)

count : (c : tie.After-signed_count-q) → to_z w64 (of_z w64 c.signed_count-q.result) ≡ pos c.nearest_size.result
count c = stored c.signed_count-q.result c.signed_count-q.type_inv c.signed_count-q.ensures

returns : tie.Need-returns-then-d-eq0
returns c = sym (unmoved c.args.g c.args.d (c.requires.0 c.if-d-eq0.true))

nearest-size-requires : tie.Need-nearest_size-requires
nearest-size-requires c κs =
    let s = c.before.before in
    (weighed c.before, (s.requires.1.0, omega (arith, size c, s.requires.1.1)))

returns-2 : tie.Need-returns-then-g-lt0
returns-2 c =
    let after-magnitude : tie.After-magnitude-a = search in
    let s : tie.Start = search in
    stored c.sub.result c.sub.type_inv (rw (count c.before.before, +ℤ_idl) at c.sub.ensures)
    ∙ rw (
      of_negative s.args.g s.args.d (rw (to_z-of_z s.ranges.g) at c.if-g-lt0.true),
      c.nearest_size.ensures,
      size after-magnitude,
    )

returns-3 : tie.Need-returns-else-g-lt0
returns-3 c =
    let after-magnitude : tie.After-magnitude-a = search in
    let s : tie.Start = search in
    count c.before
    ∙ rw (
      of_positive s.args.g s.args.d (rw (to_z-of_z s.ranges.g) at c.if-g-lt0.false),
      c.nearest_size.ensures,
      size after-magnitude,
    )

pub move_by_spec : {M : Type 1} → statement M
move_by_spec =
    tie.close
    (tie.spec
    returns
    (λ c κs. search rules)  -- magnitude-a-requires
    nearest-size-requires
    (λ c κs. small c)  -- signed_count-q-requires
    (λ c κs. let h = small c.before.before in rw (count c.before) (omega arith))  -- sub-requires
    returns-2
    returns-3)
