-- A chain of tests in code, each with a return of its own, against a chain of `||` in a definition.
-- Assumes nothing.
use mathlib.Core.Path.{◌≡◌, refl, sym, ◌∙◌, ap}
use mathlib.Core.Bool.{Bool, true, false, ◌||◌, cond, true≢false}
use Prim.Native.Nat.{ℕ, ◌≤◌}
use lib.Dec.{ltb}
use lib.IntN.{ℤ, pos, negsuc}
use borrow.Author.Tests.{ltb-false, eq-eqb}
use Rattle.laws.specs.Tests.{out_n, eq_z}

-- the first test holds: r is the flag that the code has of it
pub or_here : {r a : Bool} (b : Bool) → r ≡ a → r ≡ true → true ≡ a || b
or_here b p q = sym (ap (λ (t : Bool). t || b) (sym p ∙ q))

-- the first test fails, and the rest is s
pub or_next : {r s a b : Bool} → r ≡ a → r ≡ false → s ≡ b → s ≡ a || b
or_next {b = b} p q h = h ∙ sym (ap (λ (t : Bool). t || b) (sym p ∙ q))

-- both tests of an `||` that fails fail
pub or_left : (a b : Bool) → a || b ≡ false → a ≡ false
or_left true b e = e
or_left false b e = refl

pub or_right : (a b : Bool) → a || b ≡ false → b ≡ false
or_right true b e = absurd (true≢false e)
or_right false b e = e

-- two tests that hold together are the same
pub same_test : (a b : Bool) → (a ≡ true → b ≡ true) → (b ≡ true → a ≡ true) → a ≡ b
same_test true b f g = sym (f refl)
same_test false true f g = g refl
same_test false false f g = refl

-- what holds on both ways of a `cond` holds of it
pub cond_ind : {A : Type 0} (P : A → Type 0) (t : Bool) (x y : A) → (t ≡ true → P x) → (t ≡ false → P y) → P (cond t x y)
cond_ind P true x y f g = f refl
cond_ind P false x y f g = g refl

-- a count that is not outside
pub in_n_low : (lo hi n : ℕ) → out_n lo hi n ≡ false → lo ≤ n
unfolding out_n
in_n_low lo hi n e = ltb-false n lo (or_left (ltb n lo) (ltb hi n) e)

pub in_n_high : (lo hi n : ℕ) → out_n lo hi n ≡ false → n ≤ hi
unfolding out_n
in_n_high lo hi n e = ltb-false hi n (or_right (ltb n lo) (ltb hi n) e)

-- equal whole numbers, and a test of them that fails
pub eq_z_same : (x : ℤ) → eq_z x x ≡ true
unfolding eq_z
eq_z_same (pos n) = eq-eqb n n refl
eq_z_same (negsuc n) = eq-eqb n n refl

pub eq_z_apart : (x y : ℤ) → eq_z x y ≡ false → x ≡ y → ⊥
eq_z_apart x y e h = true≢false (sym (eq_z_same y) ∙ (rw h at e))
