-- A mark's turn over the table: its D, its g and its move by the arrays, and their sizes.
-- Assumes nothing.
use Prim.Native.Nat.{ℕ, zero, suc, ◌+◌, ◌-◌, ◌*◌, ◌^◌, ◌≤◌, ◌<◌}
use native.Mathlib.Nat.{eq-zero-or-pos}
use native.Mathlib.Numerals.{add-one}
use native.Mathlib.Omega.{arith}
use mathlib.Core.Path.{◌≡◌, sym, ◌∙◌, ap}
use mathlib.Core.Logic.{⊎_elim}
use mathlib.Core.List.{List}
use mathlib.Core.Bool.{Bool, true, false, not}
use lib.ListN.{get_or, set, length-set}
use lib.IntN.{ℤ, pos, nat_abs, ◌+ℤ◌}
use Rattle.laws.specs.Tests.{eq_z}
use Rattle.laws.proofs.Size.{size_within}
use Rattle.divisions.specs.Weight.{most_weight}
use Rattle.book.specs.Limits.{most_height}
use Rattle.book.specs.Height.{work_height_out}
use Rattle.fields.specs.Heights.{height, Working}
use Rattle.sights.specs.Sights.{Sight, weights, pull}
use Rattle.sights.specs.Table.{Columns, seen, rows, Ends, Table}
use Rattle.divisions.specs.Nearest.{nearest}
use Rattle.sweeps.specs.Sweeps.{move_of, Swept, placed, visited}
use Rattle.sweeps.specs.MarkTurns.{swept}
use Rattle.std.specs.Prelude.{Ok}
use Rattle.fields.proofs.Setting.{set_all, place}
use Rattle.divisions.proofs.Rounding.{nearest_le, nearest_size_lem, nearest_none}
use Rattle.sweeps.proofs.Best.{no_weight}
use Rattle.sweeps.proofs.Sums.{pull_size}

module _ (cols : Columns) (b e : ℕ) (ends : Ends cols b e) where
  pub weights_size : (j k : ℕ) → weights (seen cols j k) ≤ k * most_weight
  unfolding weights seen
  weights_size j zero = omega arith
  weights_size j (suc k) =
      let h = weights_size (suc j) k in
      let w = ends.range.weight_in j in
      omega arith

module _ {first : List ℕ} {cols : Columns} {total : List ℕ} {hs : List ℤ} {b v : ℕ}
    (table : Table first cols total b) (working : Working hs b) (l : v < b) where
  -- the mark's lines
  abbrev pub lines_here : List Sight
  lines_here = seen cols (get_or first v 0) (get_or first (v + 1) 0 - get_or first v 0)

  pub rows_at : rows first cols (suc v) ≡ lines_here
  unfolding rows
  rows_at = rw (place v, ← add-one v)

  -- g
  abbrev pub pull_here : ℤ
  pull_here = pull hs (get_or hs v (pos 0)) lines_here

  pub pull_fits : nat_abs pull_here < 2 ^ 62 + 2 ^ 61
  pull_fits =
      let h =
      pull_size cols hs (get_or hs v (pos 0)) b (get_or first (v + 1) 0) (table.ends v l) working (working.inside v)
      (get_or first v 0) (get_or first (v + 1) 0 - get_or first v 0) in
      let s = (table.span v l).few in
      omega arith

  pub total_is : get_or total v 0 ≡ weights lines_here
  total_is = table.sum v l ∙ ap weights rows_at

  pub total_fits : get_or total v 0 < 2 ^ 62
  total_fits =
      let h =
      weights_size cols b (get_or first (v + 1) 0) (table.ends v l) (get_or first v 0)
      (get_or first (v + 1) 0 - get_or first v 0) in
      let s = (table.span v l).few in
      let e = total_is in
      omega arith

  pub total_zero : get_or total v 0 ≡ 0 → nat_abs pull_here ≡ 0
  total_zero e = ap nat_abs (no_weight hs (get_or hs v (pos 0)) lines_here (sym total_is ∙ e))

  -- the move
  pub move_is : nearest pull_here (get_or total v 0) ≡ move_of (rows first cols (suc v)) hs (suc v)
  unfolding move_of
  move_is = rw (rows_at, total_is, place v)

  pub move_fits : nat_abs (nearest pull_here (get_or total v 0)) < 2 ^ 62 + 2 ^ 61
  move_fits =
      let f = pull_fits in
      let n = nearest_size_lem pull_here (get_or total v 0) in
      ⊎_elim (λ (e : get_or total v 0 ≡ 0).
      let z : pull_here ≡ pos 0 = no_weight hs (get_or hs v (pos 0)) lines_here (sym total_is ∙ e) in
      let q : nearest pull_here (get_or total v 0) ≡ pos 0 =
      ap (λ (x : ℤ). nearest x (get_or total v 0)) z ∙ nearest_none (get_or total v 0) in
      rw q (omega arith))
      (λ (p : 0 < get_or total v 0). let h = nearest_le (nat_abs pull_here) (get_or total v 0) p in
      omega arith) (eq-zero-or-pos (get_or total v 0))

-- a height that is set keeps the heights inside their limit
pub working_set : (hs : List ℤ) (b v : ℕ) (z : ℤ) → Working hs b → work_height_out z ≡ false → Working (set hs v z) b
unfolding work_height_out
working_set hs b v z w e = record {
  all = simp length-set w.all;
  inside = set_all (λ (x : ℤ). nat_abs x ≤ most_height) hs v z (pos 0) (size_within most_height z e) w.inside;
}

-- a visit by its tests: z is the new height, d the move
module _ (ss : List Sight) (hs : List ℤ) (v : ℕ) (d z : ℤ) (ed : d ≡ move_of ss hs (suc v)) (ez : z ≡ get_or hs v (pos 0) +ℤ d) where
  new_height : height hs (suc v) +ℤ move_of ss hs (suc v) ≡ z
  new_height =
      ap (λ (i : ℕ). get_or hs i (pos 0) +ℤ move_of ss hs (suc v)) (place v) ∙ ap (λ (x : ℤ). get_or hs v (pos 0) +ℤ x) (sym ed) ∙ sym ez

  visit_placed : visited ss hs (suc v) ≡ placed (work_height_out z) (eq_z d (pos 0)) (suc v) z hs
  unfolding visited
  visit_placed =
      ap (λ (x : ℤ). placed (work_height_out x) (eq_z (move_of ss hs (suc v)) (pos 0)) (suc v) x hs) new_height
      ∙ ap (λ (x : ℤ). placed (work_height_out z) (eq_z x (pos 0)) (suc v) z hs) (sym ed)

  pub visit_outside : work_height_out z ≡ true → Swept.outside (v + 1) ≡ visited ss hs (suc v)
  visit_outside o = sym (visit_placed ∙ rw (o, add-one v))

  pub visit_within : work_height_out z ≡ false → (same : Bool) → same ≡ eq_z d (pos 0)
      → swept (Ok (not same)) (set hs v z) ≡ visited ss hs (suc v)
  visit_within o true e = sym (visit_placed ∙ rw (o, sym e, place v))
  visit_within o false e = sym (visit_placed ∙ rw (o, sym e, place v))
