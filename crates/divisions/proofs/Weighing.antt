-- "rounded down": what the weight's definition picks, and that only one number is it. Assumes nothing.
use Prim.Native.Nat.{ℕ, suc, ◌*◌, ◌≤◌, ◌<◌}
use native.Mathlib.Decide.{dec_lt}
use native.Mathlib.Nat.{div-add-mod', mod-lt, mul-le-mul_right}
use native.Mathlib.Omega.{arith}
use mathlib.Core.Path.{◌≡◌}
use Rattle.divisions.specs.Weight.{weight_of, RoundedDown}

pub weight_rounded_down : (length : ℕ) → 0 < length → RoundedDown length (weight_of length)
unfolding weight_of
weight_rounded_down length h =
    let e = div-add-mod' 1000000 length in
    let r = mod-lt 1000000 h in
    record { not_over = omega arith; one_more = omega arith }

not_less : (length v w : ℕ) → RoundedDown length v → RoundedDown length w → v < w → ⊥
not_less length v w x y l =
    let h : suc v * length ≤ w * length = mul-le-mul_right length l in
    omega (arith, x.one_more, y.not_over)

pub weight_only : (length v w : ℕ) → RoundedDown length v → RoundedDown length w → v ≡ w
weight_only length v w x y = go (dec_lt v w) (dec_lt w v)
  where
    go : Dec (v < w) → Dec (w < v) → v ≡ w
    go (yes l) b = absurd (not_less length v w x y l)
    go (no a) (yes l) = absurd (not_less length w v y x l)
    go (no a) (no b) = omega arith
