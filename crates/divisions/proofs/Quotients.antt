-- There is one quotient and one remainder: a / d and a % d. Assumes nothing.
use Prim.Native.Nat.{ℕ, ◌/◌, ◌%◌}
use native.Mathlib.Nat.{div-add-mod', div-eq_of_lt-le}
use native.Mathlib.Omega.{arith}
use mathlib.Core.Path.{◌≡◌, sym}
use Rattle.divisions.specs.Quotient.{Quotient}

pub quotient_is : (a d q r : ℕ) → Quotient a d q r → q ≡ a / d
quotient_is a d q r x = sym (div-eq_of_lt-le d (omega (arith, x.whole)) (omega (arith, x.whole, x.less)))

pub remainder_is : (a d q r : ℕ) → Quotient a d q r → r ≡ a % d
remainder_is a d q r x =
    let e = rw (sym (quotient_is a d q r x)) at (div-add-mod' a d) in
    omega (arith, x.whole)
