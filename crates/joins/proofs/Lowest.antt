-- The place of the lowest line of a run, as a loop finds it. Assumes nothing.
use Prim.Native.Nat.{ℕ, ◌+◌, ◌/◌, ◌≤◌, ◌<◌}
use native.Mathlib.Omega.{arith}
use native.Mathlib.Decide.{ℕ_discrete}
use mathlib.Core.Path.{◌≡◌}
use mathlib.Core.List.{List}
use lib.ListN.{length, get_or}
use Rattle.joins.specs.Code.{LowestAt}

-- of the first i places k has the lowest line, and is the first such
pub record LowestTo (run : List ℕ) (k i : ℕ) : Type 0 where
  pub is_there : k < length run
  pub no_lower : (j : ℕ) → j < i → get_or run k 0 / 2 ≤ get_or run j 0 / 2
  pub first : (j : ℕ) → j < k → get_or run k 0 / 2 < get_or run j 0 / 2

pub lowest_start : (run : List ℕ) → 0 < length run → LowestTo run 0 0
lowest_start run h = record { is_there = h; no_lower = λ j b. absurd (omega arith); first = λ j b. absurd (omega arith) }

module _ (run : List ℕ) (k i : ℕ) (here : i < length run) (t : LowestTo run k i) where
  -- the line at place i is lower
  pub lowest_lower : get_or run i 0 / 2 < get_or run k 0 / 2 → LowestTo run i (i + 1)
  lowest_lower h = record {
    is_there = here;
    no_lower = λ j b. go j b (ℕ_discrete j i);
    first = λ j b. omega (arith, t.no_lower j b);
  }
    where
      go : (j : ℕ) → j < i + 1 → Dec (j ≡ i) → get_or run i 0 / 2 ≤ get_or run j 0 / 2
      go j b (yes z) = rw z (omega arith)
      go j b (no d) = omega (arith, t.no_lower j (omega arith))

  -- it is not
  pub lowest_not : get_or run k 0 / 2 ≤ get_or run i 0 / 2 → LowestTo run k (i + 1)
  lowest_not h = record { is_there = t.is_there; no_lower = λ j b. go j b (ℕ_discrete j i); first = t.first }
    where
      go : (j : ℕ) → j < i + 1 → Dec (j ≡ i) → get_or run k 0 / 2 ≤ get_or run j 0 / 2
      go j b (yes z) = rw z h
      go j b (no d) = t.no_lower j (omega arith)

pub lowest_end : (run : List ℕ) (k i : ℕ) → length run ≤ i → LowestTo run k i → LowestAt run k
lowest_end run k i e t = record {
  is_there = t.is_there;
  no_lower = λ j b. t.no_lower j (omega arith);
  first = t.first;
}
