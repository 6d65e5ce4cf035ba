-- Sums over the sights in the table: one line more, and their sizes.
-- Assumes nothing.
use Prim.Native.Nat.{ℕ, zero, suc, ◌+◌, ◌-◌, ◌*◌, ◌≤◌, ◌<◌}
use native.Mathlib.Nat.{mul-le-mul}
use native.Mathlib.Numerals.{add-one}
use native.Mathlib.Omega.{arith}
use mathlib.Core.Path.{◌≡◌, sym, ◌∙◌}
use mathlib.Core.List.{List}
use lib.ListN.{get_or}
use lib.IntN.{ℤ, pos, nat_abs, ◌+ℤ◌, ◌-ℤ◌, +ℤ_assoc, +ℤ_idr}
use Rattle.laws.proofs.Size.{size_add, size_sub, size_mul}
use Rattle.divisions.specs.Weight.{most_weight}
use Rattle.book.specs.Limits.{most_height, most_difference}
use Rattle.fields.specs.Heights.{Working}
use Rattle.sights.specs.Sights.{pull}
use Rattle.sights.specs.Table.{Columns, seen, Ends}
use Rattle.sweeps.specs.MarkTurns.{term_at}

-- the most that a line adds to g: its weight, times how far the height given from the other end can be from the present one
abbrev pub most_apart : ℕ
most_apart = 2 * most_height + most_difference

abbrev pub most_term : ℕ
most_term = most_weight * most_apart

module _ (cols : Columns) (hs : List ℤ) (z : ℤ) where
  -- the first of the lines left
  pub pull_first : (j k : ℕ) → pull hs z (seen cols j (suc k)) ≡ term_at cols hs z j +ℤ pull hs z (seen cols (suc j) k)
  unfolding pull seen term_at
  pull_first j k =
      let e : suc (get_or cols.other j 0) - 1 ≡ get_or cols.other j 0 = omega arith in
      rw e

  -- one turn of the sum from place a to place e: g is what came so far, t the term at j
  pub pull_turn : (a e j : ℕ) (g t : ℤ) → j < e → t ≡ term_at cols hs z j
      → g +ℤ pull hs z (seen cols j (e - j)) ≡ pull hs z (seen cols a (e - a))
      → (g +ℤ t) +ℤ pull hs z (seen cols (j + 1) (e - (j + 1))) ≡ pull hs z (seen cols a (e - a))
  pull_turn a e j g t l et inv =
      let k : e - j ≡ suc (e - suc j) = omega arith in
      rw (et, +ℤ_assoc, add-one j, ← pull_first j (e - suc j)) (rw k at inv)

  -- none is left
  pub pull_end : (e j : ℕ) (g s : ℤ) → e ≤ j → g +ℤ pull hs z (seen cols j (e - j)) ≡ s → g ≡ s
  unfolding seen pull
  pull_end e j g s l inv =
      let k : e - j ≡ 0 = omega arith in
      sym (+ℤ_idr g) ∙ rw k at inv

  module _ (b e : ℕ) (ends : Ends cols b e) (working : Working hs b) (low : nat_abs z ≤ most_height) where
    pub term_size : (j : ℕ) → nat_abs (term_at cols hs z j) ≤ most_term
    unfolding term_at
    term_size j =
        let x = get_or hs (get_or cols.other j 0) (pos 0) in
        let r = get_or cols.rise j (pos 0) in
        let hx = working.inside (get_or cols.other j 0) in
        let hr = ends.range.rise_in j in
        let hw = ends.range.weight_in j in
        let a = size_add x r in
        let s = size_sub (x +ℤ r) z in
        let d : nat_abs (x +ℤ r -ℤ z) ≤ most_apart = omega arith in
        let k : get_or cols.weight j 0 * nat_abs (x +ℤ r -ℤ z) ≤ most_weight * most_apart = mul-le-mul hw d in
        rw (size_mul (pos (get_or cols.weight j 0)) (x +ℤ r -ℤ z)) (omega arith)

    -- g fits 64 bits: at most 512 lines
    pub pull_size : (j k : ℕ) → nat_abs (pull hs z (seen cols j k)) ≤ k * most_term
    unfolding pull seen
    pull_size j zero = omega arith
    pull_size j (suc k) =
        let t = term_size j in
        let p = pull_size (suc j) k in
        let s = size_add (term_at cols hs z j) (pull hs z (seen cols (suc j) k)) in
        rw (pull_first j k) (omega arith)
