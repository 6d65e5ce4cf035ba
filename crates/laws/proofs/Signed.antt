-- Laws on signed 64-bit numbers: what the machine reads back from a number's bits, as tests on the number itself.
-- Assumes nothing.
use mathlib.Core.Path.{◌≡◌, refl, sym, ◌∙◌, subst}
use mathlib.Core.Bool.{Bool, true, false, not}
use Prim.Native.Nat.{ℕ, suc, ◌-◌, ◌<◌, ◌^◌}
use native.Mathlib.Omega.{arith}
use lib.Dec.{T, eqb}
use lib.IntN.{ℤ, pos, negsuc}
use lib.Signed.{lt_z, mag, non_neg}
use borrow.Author.Tests.{eq-eqb, ne_eqb, eqb-true, eqb-false}
use mir.Syntax.{w64}
use mir.Val.{SFits, to_z, of_z}
use mir.Facts.{to_z-of_z}
use Rattle.laws.specs.Tests.{eq_z}

-- two tests agree where their facts do
eqb_iff : (a b c d : ℕ) → (a ≡ b → c ≡ d) → (c ≡ d → a ≡ b) → (t : Bool) → eqb c d ≡ t → eqb a b ≡ eqb c d
eqb_iff a b c d f g true e = eq-eqb a b (g (eqb-true c d e)) ∙ sym e
eqb_iff a b c d f g false e = ne_eqb a b (λ q. eqb-false c d e (f q)) ∙ sym e

-- the machine compares bits, and the numbers are equal where the bits are
pub eq_bits : (x y : ℤ) → SFits w64 x → SFits w64 y → eqb (of_z w64 x) (of_z w64 y) ≡ eq_z x y
unfolding eq_z
eq_bits (pos a) (pos b) fx fy = refl
eq_bits (pos a) (negsuc b) fx fy = ne_eqb a (2 ^ 64 - suc b) (λ e. omega (arith, fx.sfits, fy.sfits))
eq_bits (negsuc a) (pos b) fx fy = ne_eqb (2 ^ 64 - suc a) b (λ e. omega (arith, fx.sfits, fy.sfits))
eq_bits (negsuc a) (negsuc b) fx fy =
    eqb_iff (2 ^ 64 - suc a) (2 ^ 64 - suc b) a b (λ e. omega (arith, fx.sfits, fy.sfits)) (λ e. omega arith) (eqb a b) refl

-- a number that is not below 0 is `pos` of its magnitude
pub nonneg : (z : ℤ) → lt_z z (pos 0) ≡ false → T (non_neg z)
nonneg (pos n) h = tt
nonneg (negsuc n) h = subst (λ (t : Bool). T (not t)) (sym h) tt

-- what is read back from the bits of an element of a slice: the element's own rule gives the bound (`.given`)
pub back : (z : ℤ) → mag z < 2 ^ 63 → to_z w64 (of_z w64 z) ≡ z
back z h = to_z-of_z {w = w64} (record { sfits = h })

-- what a store puts into a slice, where the number stored is known to be z
pub stored : (x : ℤ) {z : ℤ} → mag x < 2 ^ 63 → x ≡ z → to_z w64 (of_z w64 x) ≡ z
stored x h e = back x h ∙ e
