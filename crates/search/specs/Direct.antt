-- The least line at a mark, and the path that it is by itself. Assumes nothing.
use Rattle.std.specs.Prelude.{ℕ, ◌-◌, ◌≤◌, ◌<◌, ◌≡◌, ◌⊎◌, List, [], ◌∷◌}
use Rattle.network.specs.Standing.{Line}
use Rattle.network.specs.Path.{shortest}
use Rattle.nearest.specs.Heap.{far}
use Rattle.network.specs.Codes.{codes}
use Rattle.chains.specs.Chains.{sum_of, On, Given, flip, halves}

-- a half on the chain from first on has the sum s
pub record Sum (next ends : List ℕ) (first s : ℕ) : Type 0 where
  pub h : ℕ
  pub on : On next first h
  pub its : s ≡ sum_of ends h

-- s is the least sum of the halves on the chain from first on; of an empty chain it is far
pub record LeastSum (next ends : List ℕ) (first s : ℕ) : Type 0 where
  pub under : (j : ℕ) → On next first j → s ≤ sum_of ends j
  pub one : (s ≡ far) ⊎ Sum next ends first s

-- a half h that is not 0 is, run the other way, the whole path
pub record Direct (n : ℕ) (head next ends : List ℕ) (r to h : ℕ) : Type 0 where
  pub low : h < halves
  pub whole : 0 < h → (sub : List Line) → Given sub n head next ends → codes (shortest (n - 1) sub to r) ≡ flip h ∷ []
