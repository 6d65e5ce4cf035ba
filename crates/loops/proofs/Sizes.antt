-- How large the numbers of a loop are, by those of its lines. Assumes nothing.
use Prim.Native.Nat.{ℕ, zero, suc, ◌*◌, ◌≤◌, ◌<◌}
use native.Mathlib.Omega.{arith}
use mathlib.Core.Path.{◌≡◌, refl}
use mathlib.Core.Bool.{Bool, true, false}
use mathlib.Core.List.{[], ◌∷◌, map, Memᴰ}
use lib.IntN.{ℤ, pos, nat_abs}
use lib.ListN.{length, get_or}
use Rattle.laws.proofs.Size.{size_neg, size_add}
use Rattle.network.specs.Walk.{Pass, way_length}
use Rattle.loops.specs.Loops.{Loop}
use Rattle.loops.specs.Row.{signed, listed, misclosure}

-- the sense of a pass changes no size
size_signed : (forward : Bool) (z : ℤ) → nat_abs (signed forward z) ≡ nat_abs z
size_signed true z = refl
size_signed false z = size_neg z

pub length_at_most : (m : ℕ) (lp : Loop) → ((p : Pass) → Memᴰ p lp → p.line.length ≤ m) → way_length lp ≤ length lp * m
unfolding way_length
length_at_most m [] h = omega arith
length_at_most m (p ∷ ps) h = omega (arith, h p (Memᴰ.head refl), length_at_most m ps (λ q i. h q (Memᴰ.tail i)))

pub misclosure_at_most : (m : ℕ) (lp : Loop) → ((p : Pass) → Memᴰ p lp → nat_abs p.line.difference ≤ m)
    → nat_abs (misclosure lp) ≤ length lp * m
unfolding misclosure
misclosure_at_most m [] h = omega arith
misclosure_at_most m (p ∷ ps) h =
    let d = p.line.difference in
    omega (
      arith,
      size_add (signed p.forward d) (misclosure ps),
      size_signed p.forward d,
      h p (Memᴰ.head refl),
      misclosure_at_most m ps (λ q i. h q (Memᴰ.tail i)),
    )

pub listed_at_most : (m : ℕ) (lp : Loop) → ((p : Pass) → Memᴰ p lp → p.line.number ≤ m) → (i : ℕ) → i < length (map listed lp)
    → nat_abs (get_or (map listed lp) i (pos 0)) ≤ m
listed_at_most m [] h i l = absurd (omega arith)
listed_at_most m (p ∷ ps) h zero l = omega (arith, size_signed p.forward (pos p.line.number), h p (Memᴰ.head refl))
listed_at_most m (p ∷ ps) h (suc i) l = listed_at_most m ps (λ q j. h q (Memᴰ.tail j)) i (omega arith)
