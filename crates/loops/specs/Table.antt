-- The table of loops: the loops of a book as numbers in two slices, found once and read by whatever is asked of them.
-- Assumes nothing.
use Rattle.std.specs.Prelude.{ℕ, ◌≤◌, ◌<◌, ◌≡◌, List, [], ◌∷◌, ◌++◌, length, get_or, take, drop}
use Rattle.network.specs.Codes.{codes}
use Rattle.loops.specs.Loops.{Loop}

-- the runs of the loops, one after the other: a loop's run has its closing line first, then its path, each line with its sense in one
-- number
unfoldable pub runs_of : List Loop → List ℕ
unfolding codes
runs_of [] = []
runs_of (lp ∷ ls) = codes lp ++ runs_of ls

-- the table holds the loops ls: so many; where each run begins, and after the last where it ends; and the runs
pub record Table (ls : List Loop) (starts runs : List ℕ) (count : ℕ) : Type 0 where
  pub counted : count ≡ length ls
  pub starts_fit : length ls < length starts
  pub begins : (i : ℕ) → i ≤ length ls → get_or starts i 0 ≡ length (runs_of (take i ls))
  pub held : runs ≡ runs_of ls ++ drop (length (runs_of ls)) runs
