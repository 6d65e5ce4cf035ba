-- Moving one mark by d changes the weighted sum of squared residuals by D * d * d - 2 * g * d.
-- Assumes nothing.
use Prim.Native.Nat.{ℕ, suc, ◌+◌, ◌*◌, ◌-◌, ◌≤◌, ◌<◌}
use native.Mathlib.Omega.{arith}
use mathlib.Core.Path.{◌≡◌, refl, sym, ◌∙◌, ap}
use mathlib.Core.Bool.{Bool, true, false}
use mathlib.Core.List.{List, [], ◌∷◌, Memᴰ}
use lib.Dec.{eqb}
use lib.ListN.{length}
use lib.Seq.{get_or-set_same, get_or-set_other}
use lib.IntN.{ℤ, pos, negsuc, nat_abs, neg_ℤ, ◌+ℤ◌, ◌-ℤ◌, ◌*ℤ◌, zero-*ℤ}
use borrow.Author.Tests.{eqb-true, eqb-false}
use Rattle.laws.proofs.Ring.{ring}
use Rattle.network.specs.Standing.{Line}
use Rattle.network.specs.Sound.{Placed, Apart}
use Rattle.fields.specs.Heights.{height}
use Rattle.divisions.specs.Weight.{weight_of}
use Rattle.sights.specs.Sights.{sights_of, weights, pull}
use Rattle.sweeps.specs.Squares.{residual, move_mark, squares}

-- what a move by d adds to the sum, by the D and g of its mark
change : ℤ → ℤ → ℤ → ℤ
change D g d = D *ℤ (d *ℤ d) +ℤ neg_ℤ (g *ℤ d +ℤ g *ℤ d)

-- one line's part, whose residual r becomes r + d or r - d
at_to : (w r d s D g : ℤ)
    → w *ℤ ((r +ℤ d) *ℤ (r +ℤ d)) +ℤ (s +ℤ change D g d) ≡ (w *ℤ (r *ℤ r) +ℤ s) +ℤ change (w +ℤ D) (w *ℤ neg_ℤ r +ℤ g) d
unfolding change
at_to w r d s D g = simp ring

at_from : (w r d s D g : ℤ) → w *ℤ ((r -ℤ d) *ℤ (r -ℤ d)) +ℤ (s +ℤ change D g d) ≡ (w *ℤ (r *ℤ r) +ℤ s) +ℤ change (w +ℤ D) (w *ℤ r +ℤ g) d
unfolding change
at_from w r d s D g = simp ring

elsewhere : (w r d s D g : ℤ) → w *ℤ (r *ℤ r) +ℤ (s +ℤ change D g d) ≡ (w *ℤ (r *ℤ r) +ℤ s) +ℤ change D g d
unfolding change
elsewhere w r d s D g = simp ring

no_lines : (d : ℤ) → pos 0 ≡ pos 0 +ℤ change (pos 0) (pos 0) d
unfolding change
no_lines d = sym (rw (zero-*ℤ (d *ℤ d), zero-*ℤ d))

twice : (x : ℤ) → pos 2 *ℤ x ≡ x +ℤ x
twice (pos n) = let h : 2 * n ≡ n + n = omega arith in ap pos h
twice (negsuc n) = let h : 2 * suc n ≡ suc (suc (n + n)) = omega arith in ap (λ (k : ℕ). neg_ℤ (pos k)) h

-- the residuals by the heights of the two ends
raised_to : (z o d e : ℤ) → (z +ℤ e) -ℤ o -ℤ d ≡ (z -ℤ o -ℤ d) +ℤ e
raised_to z o d e = simp ring

raised_from : (z o d e : ℤ) → o -ℤ (z +ℤ e) -ℤ d ≡ (o -ℤ z -ℤ d) -ℤ e
raised_from z o d e = simp ring

given_to : (z o d : ℤ) → (o +ℤ d) -ℤ z ≡ neg_ℤ (z -ℤ o -ℤ d)
given_to z o d = simp ring

given_from : (z o d : ℤ) → (o +ℤ neg_ℤ d) -ℤ z ≡ o -ℤ z -ℤ d
given_from z o d = simp ring

-- one line of the sum, as whole numbers
pub part : (w : ℕ) (r : ℤ) (s : ℕ) → pos (w * (nat_abs r * nat_abs r) + s) ≡ pos w *ℤ (r *ℤ r) +ℤ pos s
part w (pos n) s = refl
part w (negsuc n) s = refl

-- one line more: its residual r becomes r', and x is what it adds to g for a weight of 1; the other lines have D, g and the sums s and s'
module _ (w : ℕ) (r r' x d : ℤ) (s s' D : ℕ) (g : ℤ) (rest : pos s' ≡ pos s +ℤ change (pos D) g d) where
  joined_to : r' ≡ r +ℤ d → x ≡ neg_ℤ r
      → pos (w * (nat_abs r' * nat_abs r') + s') ≡ pos (w * (nat_abs r * nat_abs r) + s) +ℤ change (pos (w + D)) (pos w *ℤ x +ℤ g) d
  joined_to e f = rw (part w r' s', part w r s, e, f, rest) (at_to (pos w) r d (pos s) (pos D) g)

  joined_from : r' ≡ r -ℤ d → x ≡ r
      → pos (w * (nat_abs r' * nat_abs r') + s') ≡ pos (w * (nat_abs r * nat_abs r) + s) +ℤ change (pos (w + D)) (pos w *ℤ x +ℤ g) d
  joined_from e f = rw (part w r' s', part w r s, e, f, rest) (at_from (pos w) r d (pos s) (pos D) g)

  joined_elsewhere : r' ≡ r → pos (w * (nat_abs r' * nat_abs r') + s') ≡ pos (w * (nat_abs r * nat_abs r) + s) +ℤ change (pos D) g d
  joined_elsewhere e = rw (part w r' s', part w r s, e, rest) (elsewhere (pos w) r d (pos s) (pos D) g)

module _ (hs : List ℤ) (m : ℕ) (d : ℤ) (low : 0 < m) (high : m ≤ length hs) where
  here : height (move_mark hs m d) m ≡ height hs m +ℤ d
  here = get_or-set_same hs (m - 1) (height hs m +ℤ d) (pos 0) (omega arith)

  pub other_mark : (k : ℕ) → 0 < k → (k ≡ m → ⊥) → height (move_mark hs m d) k ≡ height hs k
  other_mark k l n = get_or-set_other hs (m - 1) (k - 1) (height hs m +ℤ d) (pos 0) (λ (e : k - 1 ≡ m - 1). n (omega arith))

  -- the sum over some lines changes by the D and g of their sights
  Changes : List Line → Type 0
  Changes ls =
      pos (squares ls (move_mark hs m d))
      ≡ pos (squares ls hs) +ℤ change (pos (weights (sights_of ls m))) (pull hs (height hs m) (sights_of ls m)) d

  -- one line more, by which of its ends the mark is
  one_line : (l : Line) (ls : List Line) (b : ℕ) → Placed b l → (l.from ≡ l.to → ⊥) → Changes ls
      → (t f : Bool) → eqb l.to m ≡ t → eqb l.from m ≡ f → Changes (l ∷ ls)
  unfolding Changes squares sights_of weights pull
  one_line l ls b p apart rest true true et ef = absurd (apart (eqb-true l.from m ef ∙ sym (eqb-true l.to m et)))
  one_line l ls b p apart rest true false et ef =
      let te : l.to ≡ m = eqb-true l.to m et in
      let r : residual (move_mark hs m d) l ≡ residual hs l +ℤ d =
      rw (te, here, other_mark l.from p.from_low (eqb-false l.from m ef))
      (raised_to (height hs m) (height hs l.from) l.difference d) in
      let x : (height hs l.from +ℤ l.difference) -ℤ height hs m ≡ neg_ℤ (residual hs l) =
      rw te (given_to (height hs m) (height hs l.from) l.difference) in
      rw (et, ef)
      (joined_to (weight_of l.length) (residual hs l) (residual (move_mark hs m d) l)
      ((height hs l.from +ℤ l.difference) -ℤ height hs m) d (squares ls hs) (squares ls (move_mark hs m d))
      (weights (sights_of ls m)) (pull hs (height hs m) (sights_of ls m)) rest r x)
  one_line l ls b p apart rest false true et ef =
      let fe : l.from ≡ m = eqb-true l.from m ef in
      let r : residual (move_mark hs m d) l ≡ residual hs l -ℤ d =
      rw (fe, here, other_mark l.to p.to_low (eqb-false l.to m et))
      (raised_from (height hs m) (height hs l.to) l.difference d) in
      let x : (height hs l.to +ℤ neg_ℤ l.difference) -ℤ height hs m ≡ residual hs l =
      rw fe (given_from (height hs m) (height hs l.to) l.difference) in
      rw (et, ef)
      (joined_from (weight_of l.length) (residual hs l) (residual (move_mark hs m d) l)
      ((height hs l.to +ℤ neg_ℤ l.difference) -ℤ height hs m) d (squares ls hs) (squares ls (move_mark hs m d))
      (weights (sights_of ls m)) (pull hs (height hs m) (sights_of ls m)) rest r x)
  one_line l ls b p apart rest false false et ef =
      let r : residual (move_mark hs m d) l ≡ residual hs l =
      rw (other_mark l.to p.to_low (eqb-false l.to m et), other_mark l.from p.from_low (eqb-false l.from m ef)) in
      rw (et, ef)
      (joined_elsewhere (weight_of l.length) (residual hs l) (residual (move_mark hs m d) l) (pos 0) d (squares ls hs)
      (squares ls (move_mark hs m d))
      (weights (sights_of ls m)) (pull hs (height hs m) (sights_of ls m)) rest r)

  by_lines : (b : ℕ) (lines : List Line) → ((l : Line) → Memᴰ l lines → Placed b l) → Apart lines → Changes lines
  unfolding Changes squares sights_of weights pull
  by_lines b [] good apart = no_lines d
  by_lines b (l ∷ ls) good apart =
      one_line l ls b (good l (Memᴰ.head refl)) (apart l (Memᴰ.head refl))
      (by_lines b ls (λ k i. good k (Memᴰ.tail i)) (λ k i. apart k (Memᴰ.tail i))) (eqb l.to m) (eqb l.from m) refl refl

  -- "Moving one mark by d changes the weighted sum of squared residuals by D * d * d - 2 * g * d"
  pub moved_by : (b : ℕ) (lines : List Line) → ((l : Line) → Memᴰ l lines → Placed b l) → Apart lines
      → pos (squares lines (move_mark hs m d))
      ≡ pos (squares lines hs)
      +ℤ (pos (weights (sights_of lines m)) *ℤ (d *ℤ d) -ℤ pos 2 *ℤ (pull hs (height hs m) (sights_of lines m) *ℤ d))
  unfolding Changes change
  moved_by b lines good apart = rw twice (by_lines b lines good apart)
