-- The lines that a lent book has, and those of them that stand, by their places.
-- Assumes nothing.
use Rattle.std.specs.Prelude.{ℕ, suc, ◌*◌, ◌≤◌, ◌≡◌, List, ℤ, pos, nat_abs, length, drop}
use Rattle.book.specs.Line.{line_words, place, from_at, to_at, difference_at, length_at, standing_at, class_at}
use Rattle.network.specs.Standing.{Line, line, standing_from}

-- the book has a line i; lines are counted from 0 here
abbrev pub HasLine : List ℤ → ℕ → Type 0
HasLine book i = place i line_words ≤ length book

-- line i of the book under the number n
abbrev pub line_at : ℕ → List ℤ → ℕ → Line
line_at n book i =
    line n (nat_abs (from_at book i)) (nat_abs (to_at book i)) (difference_at book i) (nat_abs (length_at book i)) (class_at book i)

-- line i of the book stands, and under the number n it is l
pub record StandsAt (book : List ℤ) (i n : ℕ) (l : Line) : Type 0 where
  pub is_there : HasLine book i
  pub beyond : ℕ
  pub stands : standing_at book i ≡ pos (suc beyond)
  pub its : l ≡ line_at n book i

-- the standing lines from place i of the book on, numbered from 1
abbrev pub stands_from : List ℤ → ℕ → List Line
stands_from book i = standing_from (suc i) (drop (i * line_words) book)
