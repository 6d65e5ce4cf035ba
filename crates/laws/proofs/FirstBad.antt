-- The first bad entry of a run, and runs without one. Assumes nothing.
use mathlib.Core.Path.{◌≡◌, refl, sym, ◌∙◌, ap}
use mathlib.Core.Bool.{Bool, true, false, cond}
use Prim.Native.Nat.{ℕ, zero, suc, ◌+◌, ◌<◌, ◌≤◌}
use native.Mathlib.Nat.{add-zero, add-suc, suc-add, zero-add}
use native.Mathlib.Decide.{ℕ_discrete}
use native.Mathlib.Omega.{arith}
use Rattle.laws.specs.Scan.{first_from, first_bad, any_below}

module _ (bad : ℕ → Bool) where
  good_from : (i k : ℕ) → ((j : ℕ) → j < k → bad (i + j) ≡ false) → first_from bad i k ≡ 0
  unfolding first_from
  good_from i zero h = refl
  good_from i (suc k) h =
      rw (ap bad (sym (add-zero i)) ∙ h 0 (omega arith))
      (good_from (suc i) k (λ j l. ap bad (suc-add i j ∙ sym (add-suc i j)) ∙ h (suc j) (omega arith)))

  -- where no entry is bad there is no first bad one
  pub none_first : (n : ℕ) → ((i : ℕ) → i < n → bad i ≡ false) → first_bad bad n ≡ 0
  unfolding first_bad
  none_first n h = good_from 0 n (λ j l. ap bad (zero-add j) ∙ h j l)

  -- m is the first place from i on that is bad
  pub record IsFirst (i k m : ℕ) : Type 0 where
    pub below : m < i + k
    pub from_on : i ≤ m
    pub is_bad : bad m ≡ true
    pub none_before : (j : ℕ) → i ≤ j → j < m → bad j ≡ false

  first_from_lem : (i k m : ℕ) → first_from bad i k ≡ suc m → IsFirst i k m
  unfolding first_from
  first_from_lem i zero m e = absurd (omega arith)
  first_from_lem i (suc k) m e = go (bad i) refl e (first_from_lem (suc i) k m)
    where
      go : (t : Bool) → bad i ≡ t → cond t (suc i) (first_from bad (suc i) k) ≡ suc m
          → (first_from bad (suc i) k ≡ suc m → IsFirst (suc i) k m) → IsFirst i (suc k) m
      go true b e ih = let z : i ≡ m = omega arith in record {
        below = omega arith;
        from_on = omega arith;
        is_bad = ap bad (sym z) ∙ b;
        none_before = λ j p q. absurd (omega arith);
      }
      go false b e ih = let w = ih e in record {
        below = omega (arith, w.below);
        from_on = omega (arith, w.from_on);
        is_bad = w.is_bad;
        none_before = λ j p q. at j p q w (ℕ_discrete i j);
      }
        where
          at : (j : ℕ) → i ≤ j → j < m → IsFirst (suc i) k m → Dec (i ≡ j) → bad j ≡ false
          at j p q w (yes z) = ap bad (sym z) ∙ b
          at j p q w (no d) = w.none_before j (omega arith) q

  -- the number of the first bad entry, from 1: it is bad, and none before it
  pub first_is_first : (n m : ℕ) → first_bad bad n ≡ suc m → (m < n) × (bad m ≡ true) × ((j : ℕ) → j < m → bad j ≡ false)
  unfolding first_bad
  first_is_first n m e = let w = first_from_lem 0 n m e in (omega (arith, w.below), w.is_bad, λ j l. w.none_before j (omega arith) l)

-- where a test fails at each place below i, it holds of none
pub none_any : (p : ℕ → Bool) (i : ℕ) → ((j : ℕ) → j < i → p j ≡ false) → any_below p i ≡ false
unfolding any_below
none_any p zero h = refl
none_any p (suc i) h = rw (none_any p i (λ j l. h j (omega arith)), h i (omega arith))
