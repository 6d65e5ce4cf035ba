-- The range tests and the test of equality, from what they test. Assumes nothing.
use mathlib.Core.Path.{◌≡◌, refl, sym, ◌∙◌, ap}
use mathlib.Core.Bool.{Bool, true, false, true≢false}
use Prim.Native.Nat.{ℕ, zero, suc, ◌≤◌}
use native.Mathlib.Omega.{arith}
use lib.IntN.{ℤ, pos, negsuc, neg_ℤ, nat_abs}
use borrow.Author.Tests.{eqb-true, le-ltb}
use Rattle.laws.specs.Tests.{out_z, eq_z}
use Rattle.laws.specs.Range.{Between}

-- a natural number between two others is not outside them
pub inside : (lo hi n : ℕ) → lo ≤ n → n ≤ hi → out_z (pos lo) (pos hi) (pos n) ≡ false
unfolding out_z
inside lo hi n l h = rw (le-ltb n lo l, le-ltb hi n h)

-- the same of a whole number
pub between_inside : {lo hi : ℕ} {z : ℤ} → Between lo hi z → out_z (pos lo) (pos hi) z ≡ false
between_inside {lo = lo} {hi = hi} {z = z} w = ap (out_z (pos lo) (pos hi)) w.is ∙ inside lo hi (nat_abs z) w.low w.high

-- nor is a number of at most m either way
pub size_inside : (m : ℕ) (z : ℤ) → nat_abs z ≤ m → out_z (neg_ℤ (pos m)) (pos m) z ≡ false
unfolding out_z
size_inside zero (pos n) h = rw (le-ltb n 0 (omega arith), le-ltb 0 n h)
size_inside zero (negsuc n) h = absurd (omega arith)
size_inside (suc m) (pos n) h = le-ltb (suc m) n h
size_inside (suc m) (negsuc n) h = rw (le-ltb m n (omega arith))

-- two numbers that the test calls equal are
pub eq_z_true : (x y : ℤ) → eq_z x y ≡ true → x ≡ y
unfolding eq_z
eq_z_true (pos a) (pos b) e = ap pos (eqb-true a b e)
eq_z_true (pos a) (negsuc b) e = absurd (true≢false (sym e))
eq_z_true (negsuc a) (pos b) e = absurd (true≢false (sym e))
eq_z_true (negsuc a) (negsuc b) e = ap negsuc (eqb-true a b e)

-- two numbers that differ are not equal by the test
pub apart_eq_z : (x y : ℤ) → (x ≡ y → ⊥) → eq_z x y ≡ false
apart_eq_z x y h = go (eq_z x y) refl
  where
    go : (t : Bool) → eq_z x y ≡ t → t ≡ false
    go true e = absurd (h (eq_z_true x y e))
    go false e = refl
