use mathlib.Core.Path.{◌≡◌, ◌∙◌}
use Prim.Native.Nat.{ℕ, ◌-◌, ◌≤◌}
use native.Mathlib.Omega.{arith}
use lib.ListN.{get_or}
use lib.IntN.{ℤ, pos, nat_abs, ◌-ℤ◌}
use mir.Syntax.{w64}
use mir.Val.{to_z, of_z}
use Rattle.laws.proofs.Signed.{back, stored}
use Rattle.laws.proofs.Size.{size_sub, not_negative}
use Rattle.book.specs.Limits.{most_height}
use Rattle.fields.proofs.Readback.{read}
use Rattle.rates.specs.Rates.{correction_of}
use Rattle.rates.proofs.correction_of.Statement.{statement}
use Rattle.rates.proofs.correction_of.Tie as tie

-- the line's numbers and the heights, as they are read
to_read : (c : tie.After-struct_told-1) → to_z w64 (of_z w64 c.args.line.to) ≡ c.args.line.to
to_read c = back c.args.line.to c.struct_told-1.given.1.0.1

from-read : (c : tie.After-struct_told-2-1) → (let s : tie.Start = search in to_z w64 (of_z w64 s.args.line.from) ≡ s.args.line.from)
from-read c = let s : tie.Start = search in back s.args.line.from c.struct_told-2-1.given.0.1

difference-read : (c : tie.After-struct_told-3-1)
    → (let s : tie.Start = search in to_z w64 (of_z w64 s.args.line.difference) ≡ s.args.line.difference)
difference-read c = let s : tie.Start = search in back s.args.line.difference c.struct_told-3-1.given.1.1.0.1

height-read : (s : tie.Start) (i : ℕ) → to_z w64 (of_z w64 (get_or s.args.heights.now i (pos 0))) ≡ get_or s.args.heights.now i (pos 0)
height-read s i = read (get_or s.args.heights.now i (pos 0)) most_height (s.requires.1.inside i) (omega arith)

-- its two marks
to_mark : (c : tie.After-index-to) → (let s : tie.Start = search in c.index-to.result ≡ nat_abs s.args.line.to)
to_mark c = c.index-to.ensures ∙ rw (to_read c.before)

from_mark : (c : tie.After-index-from) → (let s : tie.Start = search in c.index-from.result ≡ nat_abs s.args.line.from)
from_mark c = c.index-from.ensures ∙ rw (from-read c.before)

-- the adjusted difference
abbrev adjusted-of : tie.After-sub-adjusted → ℤ
adjusted-of c =
    let s : tie.Start = search in
    let to : tie.After-index-to = search in
    let from : tie.After-index-from = search in
    get_or s.args.heights.now (to.index-to.result - 1) (pos 0) -ℤ get_or s.args.heights.now (from.index-from.result - 1) (pos 0)

adjusted-read : (c : tie.After-sub-adjusted) → to_z w64 (of_z w64 c.sub-adjusted.result) ≡ adjusted-of c
adjusted-read c =
    let s : tie.Start = search in
    let to : tie.After-index-to = search in
    let from : tie.After-index-from = search in
    stored c.sub-adjusted.result c.sub-adjusted.type_inv (c.sub-adjusted.ensures ∙ rw
    (height-read s (to.index-to.result - 1), height-read s (from.index-from.result - 1)))

adjusted-size : (c : tie.After-sub-adjusted) → nat_abs (adjusted-of c) ≤ 100000000000
adjusted-size c =
    let s : tie.Start = search in
    let to : tie.After-index-to = search in
    let from : tie.After-index-from = search in
    let t = to.index-to.result - 1 in
    let f = from.index-from.result - 1 in
    omega (
      arith,
      size_sub (get_or s.args.heights.now t (pos 0)) (get_or s.args.heights.now f (pos 0)),
      s.requires.1.inside t,
      s.requires.1.inside f,
    )

shared-slice-copy-out-sub : tie.Need-bounds-heights-to
shared-slice-copy-out-sub c =
    let s : tie.Start = search in
    omega (arith, to_mark c.before.before, s.requires.0.to.low, s.requires.0.to.high, s.requires.1.all)

shared-slice-copy-out-sub-2 : tie.Need-bounds-heights-from
shared-slice-copy-out-sub-2 c =
    let s : tie.Start = search in
    omega (arith, from_mark c.before, s.requires.0.from.low, s.requires.0.from.high, s.requires.1.all)

sub-requires : tie.Need-sub-adjusted-requires
sub-requires c κs =
    let s : tie.Start = search in
    let to : tie.After-index-to = search in
    let from : tie.After-index-from = search in
    let t = to.index-to.result - 1 in
    let f = from.index-from.result - 1 in
    rw (height-read s t, height-read s f) (omega (arith, s.requires.1.inside t, s.requires.1.inside f))

sub-requires-2 : tie.Need-sub-requires
sub-requires-2 c κs =
    let s : tie.Start = search in
    rw (adjusted-read c.before, difference-read c) (omega (arith, adjusted-size c.before, s.requires.0.difference))

returns : tie.Need-returns
unfolding correction_of
returns c =
    let s : tie.Start = search in
    let to : tie.After-index-to = search in
    let from : tie.After-index-from = search in
    let a = c.before.before in
    let e : to_z w64 (of_z w64 c.sub.result) ≡ adjusted-of a -ℤ s.args.line.difference
    = stored c.sub.result c.sub.type_inv (c.sub.ensures ∙ rw (adjusted-read a, difference-read c.before)) in (
      e ∙ rw (to_mark to, from_mark from),
      rw e (omega (arith, size_sub (adjusted-of a) s.args.line.difference, adjusted-size a, s.requires.0.difference)),
    )

pub correction_of_spec : {M : Type 1} → statement M
correction_of_spec =
    tie.close
    (tie.spec
    (λ c κs. rw (to_read c) (not_negative c.requires.0.to))  -- index-to-requires
    (λ c κs. let s : tie.Start = search in rw (from-read c) (not_negative s.requires.0.from))  -- index-from-requires
    (λ c. let s : tie.Start = search in omega (arith, to_mark c.before.before, s.requires.0.to.low))  -- overflow_sub-to
    (λ c. let s : tie.Start = search in
    omega (arith, to_mark c.before.before, s.requires.0.to.high, s.requires.1.all))  -- offset_bounds-heights-to
    shared-slice-copy-out-sub
    (λ c. let s : tie.Start = search in omega (arith, from_mark c.before, s.requires.0.from.low))  -- overflow_sub-from
    (λ c. let s : tie.Start = search in
    omega (arith, from_mark c.before, s.requires.0.from.high, s.requires.1.all))  -- offset_bounds-heights-from
    shared-slice-copy-out-sub-2
    sub-requires
    sub-requires-2
    returns)
