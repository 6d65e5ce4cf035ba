-- What the machine reads back from the bits of a whole number whose size is bounded. Assumes nothing.
use Prim.Native.Nat.{ℕ, ◌≤◌, ◌<◌, ◌^◌}
use native.Mathlib.Omega.{arith}
use mathlib.Core.Path.{◌≡◌}
use lib.IntN.{ℤ, nat_abs}
use mir.Syntax.{w64}
use mir.Val.{to_z, of_z}
use mir.Facts.{to_z-of_z}
use Rattle.laws.proofs.Size.{size_fits}

pub read : (z : ℤ) (m : ℕ) → nat_abs z ≤ m → m < 2 ^ 63 → to_z w64 (of_z w64 z) ≡ z
read z m h l = to_z-of_z (size_fits z (omega arith))
