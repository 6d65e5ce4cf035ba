-- A tested book as the start and the sweeps read it: its chains, and its tree. Assumes nothing.
use Rattle.std.specs.Prelude.{ℕ, ◌+◌, List, ℤ}
use Rattle.network.specs.Standing.{standing}
use Rattle.network.specs.Tree.{tree}
use Rattle.chains.specs.Chains.{InOrder}
use Rattle.start.specs.Along.{Entered, Growth}

-- n lines on b marks
pub record Planted (lines : List ℤ) (b n : ℕ) (head next best order : List ℕ) : Type 0 where
  pub ordered : InOrder (standing lines) (b + 1) head next
  pub entered : Entered order best (tree b (standing lines))
  pub growth : Growth order best b n
