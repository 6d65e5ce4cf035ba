-- The code's state of a sweep, with the heights, is the definition's: a mark's turn, a sweep, and the sweeps.
-- Assumes nothing.
use Prim.Native.Nat.{ℕ, zero, suc, ◌+◌, ◌-◌, ◌≤◌, ◌<◌}
use native.Mathlib.Numerals.{add-one}
use native.Mathlib.Nat.{zero-add, suc-add}
use native.Mathlib.Omega.{arith}
use mathlib.Core.Path.{◌≡◌, refl, sym, ◌∙◌, ap, subst}
use mathlib.Core.Bool.{Bool, true, false}
use mathlib.Core.List.{List}
use lib.IntN.{ℤ}
use Rattle.sights.specs.Sights.{Sight}
use Rattle.sights.specs.Table.{Sighted}
use Rattle.sweeps.specs.Sweeps.{Swept, still, moved, visit, sweep, Settled, settled, unsettled, onward}
use Rattle.sweeps.specs.Sweeps.{settle_from, max_sweeps, settle}

module _ (sights : ℕ → List Sight) (is_held : ℕ → Bool) where
  -- a sweep, one mark more
  pub sweep_none : (hs : List ℤ) → still hs ≡ sweep sights is_held hs 0
  unfolding sweep
  sweep_none hs = refl

  pub sweep_turn : (hs : List ℤ) (v : ℕ) (s t : Swept) → s ≡ sweep sights is_held hs v
      → t ≡ visit (is_held (suc v)) (sights (suc v)) (suc v) s → t ≡ sweep sights is_held hs (v + 1)
  unfolding sweep
  sweep_turn hs v s t e f = rw add-one (f ∙ ap (visit (is_held (suc v)) (sights (suc v)) (suc v)) e)

  -- nothing follows a height outside
  sweep_over : (hs : List ℤ) (m v k : ℕ) → Swept.outside m ≡ sweep sights is_held hs v
      → Swept.outside m ≡ sweep sights is_held hs (k + v)
  unfolding sweep
  sweep_over hs m v zero e = rw (zero-add v) e
  sweep_over hs m v (suc k) e =
      let u = suc (k + v) in
      rw (suc-add k v) (passed (is_held u) (sights u) u ∙ ap (visit (is_held u) (sights u) u) (sweep_over hs m v k e))
    where
      passed : (f : Bool) (ss : List Sight) (u : ℕ) → Swept.outside m ≡ visit f ss u (Swept.outside m)
      passed true ss u = refl
      passed false ss u = refl

  pub sweep_outside : (hs : List ℤ) (m v b : ℕ) (s : Swept) → v < b → s ≡ sweep sights is_held hs v
      → Swept.outside m ≡ visit (is_held (suc v)) (sights (suc v)) (suc v) s → Swept.outside m ≡ sweep sights is_held hs b
  sweep_outside hs m v b s l e f =
      let k : b - (v + 1) + (v + 1) ≡ b = omega arith in
      subst (λ (u : ℕ). Swept.outside m ≡ sweep sights is_held hs u) k
      (sweep_over hs m (v + 1) (b - (v + 1)) (sweep_turn hs v s (Swept.outside m) e f))

  -- the sweeps: n have been, and what is left of them from hs on ends as all do
  module _ (b : ℕ) where
    abbrev pub Left : ℕ → List ℤ → Settled → Type 0
    Left n hs all = settle_from sights is_held b (max_sweeps - n) n hs ≡ all

    left_step : (n : ℕ) (hs : List ℤ) → n < max_sweeps
        → settle_from sights is_held b (max_sweeps - n) n hs ≡ onward (sweep sights is_held hs b) n
        (λ gs. settle_from sights is_held b (max_sweeps - (n + 1)) (n + 1) gs)
    unfolding settle_from
    left_step n hs l =
        let e : max_sweeps - n ≡ suc (max_sweeps - (n + 1)) = omega arith in
        rw (e, ← add-one n)

    pub left_start : (hs : List ℤ) → Left 0 hs (settle sights is_held b hs)
    unfolding settle
    left_start hs = refl

    -- what one sweep leaves
    abbrev more : ℕ → List ℤ → Settled
    more n gs = settle_from sights is_held b (max_sweeps - (n + 1)) (n + 1) gs

    module _ (n : ℕ) (hs : List ℤ) (all : Settled) (l : n < max_sweeps) (i : Left n hs all) where
      by_sweep : (s : Swept) → s ≡ sweep sights is_held hs b → onward s n (more n) ≡ all
      by_sweep s e = ap (λ (x : Swept). onward x n (more n)) e ∙ sym (left_step n hs l) ∙ i

      pub left_still : (gs : List ℤ) → still gs ≡ sweep sights is_held hs b → settled (n + 1) gs ≡ all
      left_still gs e = rw add-one (by_sweep (still gs) e)

      pub left_moved : (gs : List ℤ) → moved gs ≡ sweep sights is_held hs b → Left (n + 1) gs all
      left_moved gs e = by_sweep (moved gs) e

      pub left_outside : (m : ℕ) → Swept.outside m ≡ sweep sights is_held hs b → Settled.outside m ≡ all
      left_outside m e = by_sweep (Swept.outside m) e

    pub left_none : (n : ℕ) (hs : List ℤ) (all : Settled) → max_sweeps ≤ n → Left n hs all → unsettled ≡ all
    unfolding settle_from
    left_none n hs all l i = let e : max_sweeps - n ≡ 0 = omega arith in rw e at i

-- two tables that agree on the marks 1 to b make the same sweeps
module _ (f g : ℕ → List Sight) (is_held : ℕ → Bool) where
  sweep_same : (hs : List ℤ) (k : ℕ) → Sighted f g k → sweep f is_held hs k ≡ sweep g is_held hs k
  unfolding sweep
  sweep_same hs zero e = refl
  sweep_same hs (suc k) e =
      ap (λ (s : Swept). visit (is_held (suc k)) (f (suc k)) (suc k) s) (sweep_same hs k (λ v l. e v (omega arith)))
      ∙ ap (λ (ss : List Sight). visit (is_held (suc k)) ss (suc k) (sweep g is_held hs k)) (e k (omega arith))

  onward_same : (s : Swept) (n : ℕ) (more less : List ℤ → Settled) → ((hs : List ℤ) → more hs ≡ less hs) → onward s n more ≡ onward s n less
  onward_same (still hs) n more less e = refl
  onward_same (moved hs) n more less e = e hs
  onward_same (Swept.outside m) n more less e = refl

  settle_from_same : (b : ℕ) → Sighted f g b → (k n : ℕ) (hs : List ℤ) → settle_from f is_held b k n hs ≡ settle_from g is_held b k n hs
  unfolding settle_from
  settle_from_same b e zero n hs = refl
  settle_from_same b e (suc k) n hs =
      ap (λ (s : Swept). onward s n (λ gs. settle_from f is_held b k (suc n) gs)) (sweep_same hs b e)
      ∙ onward_same (sweep g is_held hs b) n (λ gs. settle_from f is_held b k (suc n) gs) (λ gs. settle_from g is_held b k (suc n) gs)
      (λ gs. settle_from_same b e k (suc n) gs)

  pub settle_same : (b : ℕ) → Sighted f g b → (hs : List ℤ) → settle f is_held b hs ≡ settle g is_held b hs
  unfolding settle
  settle_same b e hs = settle_from_same b e max_sweeps 0 hs
