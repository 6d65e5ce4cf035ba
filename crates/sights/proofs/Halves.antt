-- A half of a line by the book's numbers, and in range; its weight is that of its line.
-- Assumes nothing.
use Prim.Native.Nat.{ℕ, zero, suc, ◌%◌, ◌≤◌, ◌<◌}
use native.Mathlib.Nat.{div-le_of_le-mul}
use native.Mathlib.Omega.{arith}
use mathlib.Core.Path.{◌≡◌, refl, sym, ◌∙◌}
use mathlib.Core.List.{List}
use lib.ListN.{get_or, set}
use lib.IntN.{ℤ, pos, nat_abs, neg_ℤ}
use Rattle.book.specs.Limits.{most_difference, least_length}
use Rattle.book.specs.Line.{from_at, to_at, difference_at, length_at}
use Rattle.divisions.specs.Weight.{weight_of, most_weight}
use Rattle.sights.specs.Sights.{Sight, sight}
use Rattle.sights.specs.Table.{Columns, columns, InRange}
use Rattle.sights.specs.Halves.{place_of, side_of, sight_at, HalfHere, WeightsOf}
use Rattle.fields.proofs.Setting.{set_all}

module _ (lines : List ℤ) (h : ℕ) where
  abbrev weight_here : ℕ
  weight_here = weight_of (nat_abs (length_at lines (place_of h)))

  pub along_half : h % 2 ≡ 0 → sight_at lines h
      ≡ sight (nat_abs (to_at lines (place_of h))) (neg_ℤ (difference_at lines (place_of h))) weight_here
  unfolding sight_at
  along_half e = rw e

  pub against_half : (h % 2 ≡ 0 → ⊥)
      → sight_at lines h ≡ sight (nat_abs (from_at lines (place_of h))) (difference_at lines (place_of h)) weight_here
  unfolding sight_at
  against_half e = let m : h % 2 ≡ 1 = omega arith in rw m

  either : (P : Sight → Type 0) → P (sight (nat_abs (to_at lines (place_of h))) (neg_ℤ (difference_at lines (place_of h))) weight_here)
      → P (sight (nat_abs (from_at lines (place_of h))) (difference_at lines (place_of h)) weight_here) → P (sight_at lines h)
  unfolding sight_at
  either P a z = by (h % 2)
    where
      by : (k : ℕ) → P (side_of k (sight (nat_abs (to_at lines (place_of h))) (neg_ℤ (difference_at lines (place_of h))) weight_here)
          (sight (nat_abs (from_at lines (place_of h))) (difference_at lines (place_of h)) weight_here))
      by zero = a
      by (suc k) = z

  -- either half has the line's weight
  weight_here_lem : (sight_at lines h).weight ≡ weight_here
  weight_here_lem = either (λ s. s.weight ≡ weight_here) refl refl

  -- a half leads to a mark
  pub other_low : {b n : ℕ} → HalfHere lines b n h → 0 < (sight_at lines h).other
  other_low p = either (λ s. 0 < s.other) p.place.good.to.low p.place.good.from.low

-- the weight of a line of at least 10 metres
weight_most : (l : ℕ) → least_length ≤ l → weight_of l ≤ most_weight
unfolding weight_of
weight_most l h = div-le_of_le-mul l (omega arith)

pub range_set : (cols : Columns) (b c o w : ℕ) (r : ℤ) → InRange cols b → o < b → nat_abs r ≤ most_difference → w ≤ most_weight
    → InRange (columns (set cols.other c o) (set cols.rise c r) (set cols.weight c w)) b
range_set cols b c o w r h ho hr hw = record {
  other_in = set_all (λ (x : ℕ). x < b) cols.other c o 0 ho h.other_in;
  rise_in = set_all (λ (x : ℤ). nat_abs x ≤ most_difference) cols.rise c r (pos 0) hr h.rise_in;
  weight_in = set_all (λ (x : ℕ). x ≤ most_weight) cols.weight c w 0 hw h.weight_in;
}

-- the weight of either half of a line
pub half_weight : (lines : List ℤ) (b n h : ℕ) (weights : List ℕ) → HalfHere lines b n h → WeightsOf lines n weights
    → (get_or weights (place_of h) 0 ≡ (sight_at lines h).weight) × (get_or weights (place_of h) 0 ≤ most_weight)
half_weight lines b n h weights p w =
    let e = w.each (place_of h) p.place.inside in
    (e ∙ sym (weight_here_lem lines h), rw e (weight_most (nat_abs (length_at lines (place_of h))) p.place.good.long.low))
