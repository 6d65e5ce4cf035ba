-- A whole number below 2 to the 53rd, either way, is cast to a 64-bit float with nothing lost: cast back, it is the same.
-- Assumes nothing.
use Prim.Native.Nat.{◌<◌, ◌^◌}
use native.Mathlib.Omega.{arith}
use mathlib.Core.Path.{◌≡◌}
use mathlib.Core.Bool.{false}
use lib.Dec.{T}
use lib.IntN.{ℤ, pos, negsuc, nat_abs}
use lib.Ieee.{binary64, in_float, in_signed, to_signed, of_int}
use lib.Ieee.Back.{positive_back, negative_back}
use borrow.Author.Tests.{le-ltb}
use Rattle.laws.specs.Tests.{out_z}
use Rattle.laws.proofs.Floats.{exact}

inside : (z : ℤ) → nat_abs z < 2 ^ 53 → out_z (negsuc 9007199254740991) (pos 9007199254740992) z ≡ false
unfolding out_z
inside (pos n) h = le-ltb 9007199254740992 n (omega arith)
inside (negsuc n) h = rw (le-ltb 9007199254740991 n (omega arith))

pub exact_below : (z : ℤ) → nat_abs z < 2 ^ 53 → T (in_float binary64 z)
exact_below z h = exact z (inside z h)

-- to a float and back
pub there_and_back : (z : ℤ) → nat_abs z < 2 ^ 53 → T (in_signed binary64 63 (of_int binary64 z)) × (to_signed 63 (of_int binary64 z) ≡ z)
there_and_back (pos n) h = positive_back binary64 63 n (exact_below (pos n) h) (omega arith)
there_and_back (negsuc n) h = negative_back binary64 63 n (exact_below (negsuc n) h) (omega arith)
