-- Refusal 9: whether a lent report is another's.
-- Assumes nothing.
use Rattle.std.specs.Prelude.{Bool, true, false, not, cond, List, [], ◌∷◌, length, take, ℤ}
use Rattle.laws.specs.Tests.{eq_z}

-- the two lists of numbers are the same
unfoldable pub same_numbers : List ℤ → List ℤ → Bool
same_numbers [] [] = true
same_numbers [] (y ∷ ys) = false
same_numbers (x ∷ xs) [] = false
same_numbers (x ∷ xs) (y ∷ ys) = cond (eq_z x y) (same_numbers xs ys) false

-- "lent report is shorter than this book's rows, or differs from them in their places"
unfoldable pub other_report : List ℤ → List ℤ → Bool
unfolding same_numbers
other_report report now = not (same_numbers (take (length now) report) now)
