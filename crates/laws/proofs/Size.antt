-- The size of a whole number, a natural number that `omega` reads: from a range test, and of sums, differences and products.
-- Assumes nothing.
use mathlib.Core.Path.{◌≡◌, refl, sym, subst}
use mathlib.Core.Bool.{true, false, true≢false}
use Prim.Native.Nat.{ℕ, zero, suc, ◌+◌, ◌*◌, ◌-◌, ◌^◌, ◌<◌, ◌≤◌, zero-le}
use native.Mathlib.Nat.{le_refl}
use native.Mathlib.Omega.{arith}
use lib.Dec.{ltb}
use lib.IntN.{ℤ, pos, negsuc, nat_abs, neg_ℤ, sub_ℕ, ◌+ℤ◌, ◌-ℤ◌, ◌*ℤ◌}
use lib.Signed.{lt_z}
use borrow.Author.Tests.{ltb-true, ltb-false, le-ltb}
use mir.Syntax.{w64}
use mir.Val.{SFits}
use Rattle.laws.specs.Tests.{out_z}
use Rattle.laws.specs.Range.{Between}
use Rattle.laws.proofs.Tests.{or_left, or_right, cond_ind}

-- a range test from a natural number on that failed: z is a natural number of that range
pub between : (lo hi : ℕ) (z : ℤ) → out_z (pos lo) (pos hi) z ≡ false → Between lo hi z
unfolding out_z
between lo hi (pos n) e = record {
  is = refl;
  low = ltb-false n lo (or_left (ltb n lo) (ltb hi n) e);
  high = ltb-false hi n (or_right (ltb n lo) (ltb hi n) e);
}
between lo hi (negsuc n) e = absurd (true≢false e)

-- a range test of m either way that failed
pub size_within : (m : ℕ) (z : ℤ) → out_z (neg_ℤ (pos m)) (pos m) z ≡ false → nat_abs z ≤ m
unfolding out_z
size_within zero (pos n) e = ltb-false 0 n (or_right (ltb n 0) (ltb 0 n) e)
size_within zero (negsuc n) e = absurd (true≢false e)
size_within (suc m) (pos n) e = ltb-false (suc m) n e
size_within (suc m) (negsuc n) e =
    let h = ltb-false m n (or_left (ltb m n) false e) in
    omega arith

pub size_neg : (x : ℤ) → nat_abs (neg_ℤ x) ≡ nat_abs x
size_neg (pos zero) = refl
size_neg (pos (suc n)) = refl
size_neg (negsuc n) = refl

size_subℕ : (a b : ℕ) → nat_abs (sub_ℕ a b) ≤ a + b
size_subℕ a b =
    cond_ind (λ (z : ℤ). nat_abs z ≤ a + b) (ltb a b) (negsuc (b - suc a)) (pos (a - b))
    (λ t. let h = ltb-true a b t in omega arith) (λ t. omega arith)

pub size_add : (x y : ℤ) → nat_abs (x +ℤ y) ≤ nat_abs x + nat_abs y
size_add (pos a) (pos b) = le_refl (a + b)
size_add (pos a) (negsuc b) = size_subℕ a (suc b)
size_add (negsuc a) (pos b) = let h = size_subℕ b (suc a) in omega arith
size_add (negsuc a) (negsuc b) = omega arith

pub size_sub : (x y : ℤ) → nat_abs (x -ℤ y) ≤ nat_abs x + nat_abs y
size_sub x y =
    let h = size_add x (neg_ℤ y) in
    let e = size_neg y in
    omega arith

pub size_mul : (x y : ℤ) → nat_abs (x *ℤ y) ≡ nat_abs x * nat_abs y
size_mul (pos a) (pos b) = refl
size_mul (pos a) (negsuc b) = size_neg (pos (a * suc b))
size_mul (negsuc a) (pos b) = size_neg (pos (suc a * b))
size_mul (negsuc a) (negsuc b) = refl

-- a number whose size is below 2 to the 63rd fits 64 bits
pub size_fits : (z : ℤ) → nat_abs z < 2 ^ 63 → SFits w64 z
size_fits (pos n) h = record { sfits = h }
size_fits (negsuc n) h = record { sfits = omega arith }

-- a negative number, made a natural one
pub below_zero : (x : ℤ) → lt_z x (pos 0) ≡ true → negsuc 0 -ℤ x ≡ pos (nat_abs x - 1)
below_zero (pos n) e = let h = ltb-true n 0 e in absurd (omega arith)
below_zero (negsuc n) e = rw (le-ltb (suc n) 1 (omega arith))

pub below_zero_size : (x : ℤ) → lt_z x (pos 0) ≡ true → 0 < nat_abs x
below_zero_size (pos n) e = let h = ltb-true n 0 e in omega arith
below_zero_size (negsuc n) e = omega arith

pub not_negative : {lo hi : ℕ} {z : ℤ} → Between lo hi z → lt_z z (pos 0) ≡ false
not_negative {z = z} h = subst (λ (x : ℤ). lt_z x (pos 0) ≡ false) (sym h.is) (le-ltb (nat_abs z) 0 zero-le)
