-- A line of a book that has passed its test, by its place.
-- Assumes nothing.
use Rattle.std.specs.Prelude.{ℕ, ◌≤◌, ◌<◌, List, ℤ}
use Rattle.book.specs.Limits.{most_lines}
use Rattle.book.specs.Good.{GoodLine}
use Rattle.network.specs.Field.{HasLine}

-- The line at place i of n lines
pub record Place (lines : List ℤ) (b n i : ℕ) : Type 0 where
  pub inside : i < n
  pub few : n ≤ most_lines
  pub whole : HasLine lines i
  pub good : GoodLine b lines i
