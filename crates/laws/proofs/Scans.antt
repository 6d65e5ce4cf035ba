-- The laws by which a loop meets `first_bad`: the invariant is `first_bad bad n ≡ first_from bad i (n - i)`.
-- Assumes nothing.
use mathlib.Core.Path.{◌≡◌, refl, sym, ◌∙◌, ap}
use mathlib.Core.Bool.{Bool, true, false, cond, ◌||◌, true≢false}
use Prim.Native.Nat.{ℕ, zero, suc, ◌+◌, ◌-◌, ◌<◌, ◌≤◌}
use native.Mathlib.Omega.{arith}
use native.Mathlib.Numerals.{add-one}
use native.Mathlib.Nat.{eq-or-lt_of_le, le_of_suc-le-suc, add-zero, zero-add, add-suc, suc-add}
use mathlib.Core.Logic.{⊎_elim}
use Rattle.laws.specs.Scan.{first_from, first_bad, any_below}

module _ (bad : ℕ → Bool) (n : ℕ) where
  abbrev pub Scanned : ℕ → Type 0
  Scanned i = first_bad bad n ≡ first_from bad i (n - i)

  pub scan_start : Scanned 0
  unfolding first_bad
  scan_start = ap (first_from bad 0) (omega arith)

  one_more : (i : ℕ) → i < n → first_from bad i (n - i) ≡ cond (bad i) (i + 1) (first_from bad (i + 1) (n - (i + 1)))
  unfolding first_from
  one_more i l =
      let e : n - i ≡ suc (n - (i + 1)) = omega arith in
      rw (e, add-one i)

  -- entry i is not bad
  pub scan_next : (i : ℕ) → i < n → bad i ≡ false → Scanned i → Scanned (i + 1)
  scan_next i l g h = h ∙ one_more i l ∙ rw g

  -- entry i is bad
  pub scan_stop : (i : ℕ) → i < n → bad i ≡ true → Scanned i → i + 1 ≡ first_bad bad n
  scan_stop i l g h = sym (h ∙ one_more i l ∙ rw g)

  -- none is left
  pub scan_end : (i : ℕ) → n ≤ i → Scanned i → 0 ≡ first_bad bad n
  unfolding first_from
  scan_end i l h =
      let e : n - i ≡ 0 = omega arith in
      sym (h ∙ rw e)

-- The laws of `any_below`: a loop has `any_below p j ≡ false` of the places that it has passed.
module _ (p : ℕ → Bool) where
  pub any_none : any_below p 0 ≡ false
  unfolding any_below
  any_none = refl

  pub any_next : (j : ℕ) → any_below p j ≡ false → p j ≡ false → any_below p (j + 1) ≡ false
  unfolding any_below
  any_next j h e = rw (add-one j, h, e)

  or_true : (a b : Bool) → b ≡ true → a || b ≡ true
  or_true true b e = refl
  or_true false b e = e

  pub any_found : (i j : ℕ) → j < i → p j ≡ true → any_below p i ≡ true
  unfolding any_below
  any_found zero j l e = absurd (omega arith)
  any_found (suc i) j l e =
      ⊎_elim (λ (q : j ≡ i). or_true (any_below p i) (p i) (rw q at e)) (λ (m : j < i). rw (any_found i j m e))
      (eq-or-lt_of_le (le_of_suc-le-suc l))

  -- where the test holds of no place below i, it fails at each
  pub none_below : (i : ℕ) → any_below p i ≡ false → (j : ℕ) → j < i → p j ≡ false
  none_below i h j l = go (p j) refl
    where
      go : (t : Bool) → p j ≡ t → t ≡ false
      go true e = absurd (true≢false (sym (any_found i j l e) ∙ h))
      go false e = refl

-- Where there is no bad entry, no entry is bad.
pub cond_zero : (t : Bool) (i r : ℕ) → cond t (suc i) r ≡ 0 → (t ≡ false) × (r ≡ 0)
cond_zero true i r e = absurd (omega arith)
cond_zero false i r e = (refl, e)

module _ (bad : ℕ → Bool) where
  none_from : (i k : ℕ) → first_from bad i k ≡ 0 → (j : ℕ) → j < k → bad (i + j) ≡ false
  unfolding first_from
  none_from i zero e j l = absurd (omega arith)
  none_from i (suc k) e zero l = rw (add-zero i) (cond_zero (bad i) i (first_from bad (suc i) k) e).0
  none_from i (suc k) e (suc j) l =
      rw (add-suc i j) (rw (suc-add i j) at (none_from (suc i) k (cond_zero (bad i) i (first_from bad (suc i) k) e).1 j
      (le_of_suc-le-suc l)))

  pub none_bad : (n : ℕ) → first_bad bad n ≡ 0 → (i : ℕ) → i < n → bad i ≡ false
  unfolding first_bad
  none_bad n e i l = rw (zero-add i) at (none_from 0 n e i l)

-- The number of the first bad entry is one of the entries', or 0.
module _ (bad : ℕ → Bool) where
  most_from : (i k : ℕ) → first_from bad i k ≤ i + k
  unfolding first_from
  most_from i zero = omega arith
  most_from i (suc k) = go (bad i) (most_from (suc i) k)
    where
      go : (t : Bool) → first_from bad (suc i) k ≤ suc i + k → cond t (suc i) (first_from bad (suc i) k) ≤ i + suc k
      go true h = omega arith
      go false h = omega arith

  pub first_most : (n : ℕ) → first_bad bad n ≤ n
  unfolding first_bad
  first_most n = let h = most_from 0 n in omega arith
