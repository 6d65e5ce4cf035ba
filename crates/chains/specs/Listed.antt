-- The lines of a book by the numbers of their halves. Assumes nothing.
use Rattle.std.specs.Prelude.{ℕ, ◌*◌, ◌≤◌, ◌<◌, ◌≡◌, get_or}
use mathlib.Core.List.{List, Memᴰ}
use Rattle.network.specs.Standing.{Line}
use Rattle.network.specs.Sound.{Rising}
use Rattle.chains.specs.Chains.{Told, AllSound, halves}

-- ends is that of the lines, which are by rising number, on marks below n, with numbers below q
pub record Listed (lines : List Line) (n q : ℕ) (ends : List ℕ) : Type 0 where
  pub rising : Rising lines
  pub sound : AllSound n lines
  pub few : n ≤ halves
  pub numbered : (l : Line) → Memᴰ l lines → l.number < q
  pub told : Told lines ends
  pub line_of : (j : ℕ) → j < q → 0 < get_or ends (j * 2) 0 → (l : Line) × Memᴰ l lines × (l.number ≡ j)
