-- A whole number of at most 2 to the 53rd either way is cast to a 64-bit float with nothing lost.
-- Assumes nothing.
use mathlib.Core.Path.{◌≡◌}
use mathlib.Core.Bool.{Bool, true, false, ◌||◌}
use lib.Dec.{T, leb, ltb, le→leb, lt→ltb}
use lib.IntN.{ℤ, pos, negsuc}
use lib.Ieee.{binary64, in_float}
use native.Mathlib.Omega.{arith}
use borrow.Author.Tests.{ltb-false}
use Rattle.laws.specs.Tests.{out_z}

pub exact : (z : ℤ) → out_z (negsuc 9007199254740991) (pos 9007199254740992) z ≡ false → T (in_float binary64 z)
unfolding out_z in_float
exact (pos n) h = le→leb n 9007199254740992 (ltb-false 9007199254740992 n h)
exact (negsuc n) h = lt→ltb n 9007199254740992 (omega (arith, ltb-false 9007199254740991 n (or_no (ltb 9007199254740991 n) h)))
  where
    or_no : (a : Bool) → a || false ≡ false → a ≡ false
    or_no true e = e
    or_no false e = e
