use Rattle.std.proofs.Common.{arith, ◌≡◌, ◌≤◌, nat_abs, ℤ, ◌+ℤ◌}
use mir.Syntax.{w64}
use mir.Val.{to_z, of_z}
use mir.Facts.{to_z-of_z}
use Rattle.laws.proofs.Signed.{stored}
use Rattle.laws.proofs.Size.{size_add}
use Rattle.sights.specs.Table.{Columns, columns}
use Rattle.sweeps.specs.MarkTurns.{term_at}
use Rattle.sweeps.proofs.Sums.{most_term, pull_turn, pull_end, term_size}
use Rattle.sweeps.proofs.pull_of.Goals as goal
use Rattle.sweeps.proofs.pull_of.Goals.{After-term}

-- what the line at place j adds, as it is stored, and its size
module _ (c : After-term) where
  abbrev cols : Columns
  cols = columns c.args.other.now c.args.rise.now c.args.weight.now

  abbrev z : ℤ
  z = to_z w64 (of_z w64 c.args.z)

  read : to_z w64 (of_z w64 c.term.result) ≡ term_at cols c.args.h.now z c.loop-j.j
  read = stored c.term.result c.term.type_inv c.term.ensures

  size : nat_abs (to_z w64 (of_z w64 c.term.result)) ≤ most_term
  size = rw read (term_size cols c.args.h.now z c.args.b c.args.e c.requires.ends c.requires.working
      (rw (to_z-of_z c.ranges.z) c.requires.height) c.loop-j.j)

pub add-g-requires : goal.add-g-requires
add-g-requires c =
    let s = size (goal.at.add-g-requires c).After-term in
    let f = c.requires.span.few in
    omega (arith, s, c.loop-j.invariant.size, f, c.loop-j.auto, c.loop-j-test.true)

pub loop-j-preserved : goal.loop-j-preserved
loop-j-preserved c =
    let t : After-term = (goal.at.loop-j-preserved c).After-term in
    let g = to_z w64 c.loop-j.g-bits in
    let d = to_z w64 (of_z w64 c.term.result) in
    let e : to_z w64 (of_z w64 c.add-g.result) ≡ g +ℤ d = stored c.add-g.result c.add-g.type_inv c.add-g.ensures in
    let i = c.loop-j.invariant in
    let k = size_add g d in
    let s = size t in
    record {
      size = rw e (omega (arith, k, s, i.size, c.loop-j.auto));
      sum = rw e (pull_turn (cols t) c.args.h.now (z t) c.args.a c.args.e c.loop-j.j g d c.loop-j-test.true (read t) i.sum);
    }

pub returns : goal.returns
returns c =
    let e = to_z-of_z c.ranges.z in
    let cols = columns c.args.other.now c.args.rise.now c.args.weight.now in
    rw e at (pull_end cols c.args.h.now (to_z w64 (of_z w64 c.args.z)) c.args.e c.loop-j.j (to_z w64 c.loop-j.g-bits) _
    c.loop-j-test.false c.loop-j.invariant.sum)
