-- The heights at the start, one mark after another.
-- Assumes nothing.
use Prim.Native.Nat.{ℕ, zero, suc, ◌+◌, ◌-◌, ◌≤◌, ◌<◌}
use native.Mathlib.Nat.{add-zero}
use native.Mathlib.Omega.{arith}
use mathlib.Core.Path.{◌≡◌, refl, ◌∙◌, ap}
use mathlib.Core.List.{List}
use lib.ListN.{length, get_or}
use lib.IntN.{ℤ, pos}
use Rattle.network.specs.Standing.{standing}
use Rattle.network.specs.Tree.{tree}
use Rattle.fields.specs.Heights.{height}
use Rattle.start.specs.Start.{held_height, rooted_by, start_of, heights_from, start, start_heights}

-- the heights of k marks from m on
length_from : (f : ℕ → ℤ) (m k : ℕ) → length (heights_from f m k) ≡ k
unfolding heights_from
length_from f m zero = refl
length_from f m (suc k) = ap suc (length_from f (suc m) k)

at_from : (f : ℕ → ℤ) (m k i : ℕ) → i < k → get_or (heights_from f m k) i (pos 0) ≡ f (m + i)
unfolding heights_from
at_from f m zero i l = absurd (omega arith)
at_from f m (suc k) zero l = rw add-zero
at_from f m (suc k) (suc i) l = at_from f (suc m) k i (omega arith) ∙ ap f (omega arith)

pub start_length : (b : ℕ) (held lines : List ℤ) → length (start_heights b held lines) ≡ b
unfolding start_heights start
start_length b held lines = length_from (λ m. start_of (rooted_by (tree b (standing lines))) (held_height held) b m) 1 b

pub start_height : (b : ℕ) (held lines : List ℤ) (m : ℕ) → 0 < m → m ≤ b
    → height (start_heights b held lines) m ≡ start_of (rooted_by (tree b (standing lines))) (held_height held) b m
unfolding start_heights start
start_height b held lines m l u =
    let f : ℕ → ℤ = λ k. start_of (rooted_by (tree b (standing lines))) (held_height held) b k in
    let e : 1 + (m - 1) ≡ m = omega arith in
    at_from f 1 b (m - 1) (omega arith) ∙ ap f e
