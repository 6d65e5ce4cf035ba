-- How many lines the loops run in all.
-- Assumes nothing.
use Rattle.std.specs.Prelude.{ℕ, zero, suc, ◌+◌, ◌*◌, List, [], ◌∷◌, length}
use Rattle.book.specs.Limits.{most_marks}
use Rattle.loops.specs.Loops.{Loop}

-- the lines of the loops, each as often as a loop runs it
unfoldable pub lines_in_all : List Loop → ℕ
lines_in_all [] = zero
lines_in_all (l ∷ ls) = length l + lines_in_all ls

-- No book's loops have more. Each line closes a loop or is in the tree, and a loop runs its closing line and no more lines than
-- the tree has: so loops, and lines in a loop, make at most one more than the lines of the book, which are at most twice the marks'
-- limit; and the product of two such numbers is greatest where they differ by one
abbrev pub most_lines_in_all : ℕ
most_lines_in_all = most_marks * suc most_marks
