use Rattle.std.proofs.Common.{arith, ◌≡◌, ℕ, ◌*◌, ◌≤◌, ◌∙◌, get_or, ℤ, pos, nat_abs, ◌+ℤ◌, ◌-ℤ◌, mul-le-mul}
use mir.Syntax.{w64}
use mir.Val.{to_z, of_z}
use Rattle.laws.proofs.Signed.{stored}
use Rattle.laws.proofs.Size.{size_add, size_sub}
use Rattle.book.specs.Limits.{most_height, most_difference}
use Rattle.divisions.specs.Weight.{most_weight}
use Rattle.fields.proofs.Readback.{read}
use Rattle.sweeps.specs.MarkTurns.{term_at}
use Rattle.sweeps.proofs.Sums.{most_apart}
use Rattle.sweeps.proofs.term.Goals as goal
use Rattle.sweeps.proofs.term.Goals.{After-sub}

-- the weight, and how far the height given from the other end is from the present one, as they are stored
module _ (c : After-sub) where
  abbrev w : ℕ
  w = get_or c.args.weight.now c.args.j 0

  abbrev o : ℤ
  o = get_or c.args.h.now (get_or c.args.other.now c.args.j 0) (pos 0)

  abbrev r : ℤ
  r = get_or c.args.rise.now c.args.j (pos 0)

  count : to_z w64 (of_z w64 c.signed_count.result) ≡ pos w
  count = stored c.signed_count.result c.signed_count.type_inv c.signed_count.ensures

  o_size : nat_abs o ≤ most_height
  o_size = c.requires.working.inside (get_or c.args.other.now c.args.j 0)

  r_size : nat_abs r ≤ most_difference
  r_size = c.requires.ends.range.rise_in c.args.j

  apart : to_z w64 (of_z w64 c.sub.result) ≡ o +ℤ r -ℤ c.args.z
  apart =
      let eo = read o most_height o_size (omega arith) in
      let er = read r most_difference r_size (omega arith) in
      let ez = read c.args.z most_height c.requires.height (omega arith) in
      let given : to_z w64 (of_z w64 c.add-given.result) ≡ o +ℤ r =
      stored c.add-given.result c.add-given.type_inv (c.add-given.ensures ∙ rw (eo, er)) in
      stored c.sub.result c.sub.type_inv (c.sub.ensures ∙ rw (given, ez))

  apart_size : nat_abs (o +ℤ r -ℤ c.args.z) ≤ most_apart
  apart_size =
      let a = size_add o r in
      let s = size_sub (o +ℤ r) c.args.z in
      omega (arith, a, s, o_size, r_size, c.requires.height)

pub mul-requires : goal.mul-requires
mul-requires c =
    let a : After-sub = (goal.at.mul-requires c).After-sub in
    let k : w a * nat_abs (o a +ℤ r a -ℤ c.args.z) ≤ most_weight * most_apart =
    mul-le-mul (c.requires.ends.range.weight_in c.args.j) (apart_size a) in
    rw (count a, apart a) (omega (arith, k))

pub returns : goal.returns
unfolding term_at
returns c =
    let a : After-sub = (goal.at.returns c).After-sub in
    stored c.mul.result c.mul.type_inv (c.mul.ensures ∙ rw (count a, apart a))
