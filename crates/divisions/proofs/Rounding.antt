-- "to the nearest whole number, halves toward zero": what the definition picks, and that only one number is it.
-- Assumes nothing.
use Prim.Native.Nat.{ℕ, zero, suc, ◌*◌, ◌/◌, ◌%◌, ◌≤◌, ◌<◌, zero-le}
use native.Mathlib.Nat.{div-add-mod', mod-lt, mul-le-mul_left, mul-le-mul_right, mul_comm, mul_assoc, mul-one, zero-div, zero-mod}
use native.Mathlib.Nat.{eq-zero-or-pos}
use native.Mathlib.Omega.{arith}
use mathlib.Core.Path.{◌≡◌, refl, sym, ◌∙◌, ap}
use mathlib.Core.Logic.{⊎_elim}
use mathlib.Core.Bool.{Bool, true, false, true≢false}
use lib.Dec.{ltb}
use lib.IntN.{ℤ, pos, negsuc, nat_abs, neg_ℤ}
use lib.Signed.{lt_z}
use borrow.Author.Tests.{ltb-true, ltb-false, le-ltb}
use Rattle.laws.proofs.Tests.{cond_ind}
use Rattle.laws.proofs.Size.{size_neg}
use Rattle.divisions.specs.Nearest.{nearest_size, nearest, Nearest}

-- the definition's answer is the nearest, halves toward zero
pub nearest_is : (a d : ℕ) → 0 < d → Nearest a d (nearest_size a d)
unfolding nearest_size
nearest_is a d h =
    let e = div-add-mod' a d in
    let r = mod-lt a h in
    cond_ind (Nearest a d) (ltb d (2 * (a % d))) (suc (a / d)) (a / d)
    (λ t. let m = ltb-true d (2 * (a % d)) t in record { above = omega arith; below = omega arith })
    (λ t. let m = ltb-false d (2 * (a % d)) t in record { above = omega arith; below = omega arith })

not_true_is : (t : Bool) → (t ≡ true → ⊥) → t ≡ false
not_true_is true h = absurd (h refl)
not_true_is false h = refl

-- and there is no other
not_less : (a d p q : ℕ) → Nearest a d p → Nearest a d q → p < q → ⊥
not_less a d p q x y l =
    let h : suc p * d ≤ q * d = mul-le-mul_right d l in
    omega arith

pub nearest_only : (a d p q : ℕ) → Nearest a d p → Nearest a d q → p ≡ q
nearest_only a d p q x y =
    let g : p ≤ q = ltb-false q p (not_true_is (ltb q p) (λ t. not_less a d q p y x (ltb-true q p t))) in
    let k : q ≤ p = ltb-false p q (not_true_is (ltb p q) (λ t. not_less a d p q x y (ltb-true p q t))) in
    omega arith

-- a move by the nearest whole number does not raise the sum of squares: q * q * d is at most twice a * q
pub no_rise : (a d q : ℕ) → Nearest a d q → q * (q * d) ≤ 2 * (a * q)
no_rise a d zero n = omega arith
no_rise a d (suc p) n =
    let h : suc p * d ≤ 2 * a = omega arith in
    let k : suc p * (suc p * d) ≤ suc p * (2 * a) = mul-le-mul_left (suc p) h in
    omega (arith, mul_comm (suc p) (2 * a), mul_assoc 2 a (suc p))

-- nothing moves only where twice g is at most D
pub stays : (a d : ℕ) → Nearest a d 0 → 2 * a ≤ d
stays a d n = omega arith

-- by the sign
pub nearest_size_lem : (g : ℤ) (d : ℕ) → nat_abs (nearest g d) ≡ nearest_size (nat_abs g) d
unfolding nearest
nearest_size_lem (pos a) d = refl
nearest_size_lem (negsuc a) d = size_neg (pos (nearest_size (suc a) d))

-- where there is nothing to divide, nothing moves
pub nearest_none : (d : ℕ) → nearest (pos 0) d ≡ pos 0
unfolding nearest nearest_size
nearest_none d = simp (zero-div, zero-mod, le-ltb d 0 zero-le)

-- no more than what is divided
pub nearest_le : (a d : ℕ) → 0 < d → nearest_size a d ≤ a
nearest_le a d h =
    let q = nearest_size a d in
    let n = nearest_is a d h in
    let k : q ≤ q * d = rw (mul-one q) at (mul-le-mul_left {m = 1} {n = d} q h) in
    ⊎_elim (λ (z : a ≡ 0). small q a d n z h) (λ (p : 0 < a). large q a d n p h) (eq-zero-or-pos a)
  where
    small : (q a d : ℕ) → Nearest a d q → a ≡ 0 → 0 < d → q ≤ a
    small zero a d n z h = omega arith
    small (suc q) a d n z h = omega arith

    large : (q a d : ℕ) → Nearest a d q → 0 < a → 0 < d → q ≤ a
    large q a d n p h = ltb-false a q (not_true_is (ltb a q) (λ t.
        let l : a < q = ltb-true a q t in
        let k : suc a * d ≤ q * d = mul-le-mul_right d l in
        let j : a ≤ a * d = rw (mul-one a) at (mul-le-mul_left {m = 1} {n = d} a h) in
        omega arith))

of_size : (g : ℤ) (d : ℕ) → nearest_size (nat_abs g) d ≡ 0 → nearest g d ≡ pos 0
unfolding nearest
of_size (pos a) d e = ap pos e
of_size (negsuc a) d e = ap (λ (q : ℕ). neg_ℤ (pos q)) e

-- nothing pulls: nothing moves
pub unmoved : (g : ℤ) (d : ℕ) → nat_abs g ≡ 0 → nearest g d ≡ pos 0
unmoved g d e = of_size g d (rw e (sym (nearest_size_lem (pos 0) d) ∙ ap nat_abs (nearest_none d)))

-- by the sign of g
pub of_negative : (g : ℤ) (d : ℕ) → lt_z g (pos 0) ≡ true → nearest g d ≡ neg_ℤ (pos (nearest_size (nat_abs g) d))
unfolding nearest
of_negative (pos n) d e = let h = ltb-true n 0 e in absurd (omega arith)
of_negative (negsuc n) d e = refl

pub of_positive : (g : ℤ) (d : ℕ) → lt_z g (pos 0) ≡ false → nearest g d ≡ pos (nearest_size (nat_abs g) d)
unfolding nearest
of_positive (pos n) d e = refl
of_positive (negsuc n) d e = absurd (true≢false e)
