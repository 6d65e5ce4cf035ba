-- A line that can be corrected.
-- Assumes nothing.
use Rattle.std.specs.Prelude.{ℕ, suc, ◌<◌, ◌≡◌, List, ℤ, pos}
use Rattle.book.specs.Line.{line_count, standing_at}

-- the line of this number is in the book, at place i from 0, and stands
pub record Stands (lines : List ℤ) (number : ℤ) (i : ℕ) : Type 0 where
  pub its_number : number ≡ pos (suc i)
  pub there : i < line_count lines
  pub not_withdrawn : standing_at lines i ≡ pos 0 → ⊥
