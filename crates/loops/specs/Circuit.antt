-- What a circuit is. Assumes nothing.
use Rattle.std.specs.Prelude.{ℕ, ◌≡◌, true, List}
use Rattle.network.specs.Standing.{Line}
use Rattle.network.specs.Walk.{Pass, Walk, OnlyOnce}
use Rattle.loops.specs.Checked.{runs}

-- a circuit through line n: a closed walk along the lines that runs each line at most once, and line n among them
pub record Circuit (lines : List Line) (n : ℕ) : Type 0 where
  pub from_mark : ℕ
  pub way : List Pass
  pub closed : Walk lines from_mark from_mark way
  pub once_each : OnlyOnce way
  pub through : runs n way ≡ true
