-- Some of the lines, by their numbers.
-- Assumes nothing.
use Rattle.std.specs.Prelude.{ℕ, Bool, true, false, ◌||◌, List, [], ◌∷◌, eqb}
use Rattle.network.specs.Standing.{Line}

-- the number n is among ns
unfoldable pub is_in : ℕ → List ℕ → Bool
is_in n [] = false
is_in n (m ∷ ms) = eqb m n || is_in n ms

abbrev pub keep_if : Bool → Line → List Line → List Line
keep_if true l ls = l ∷ ls
keep_if false l ls = ls

-- those of the lines whose numbers are among ns, in the order of the lines
unfoldable pub only : List ℕ → List Line → List Line
unfolding is_in
only ns [] = []
only ns (l ∷ ls) = keep_if (is_in l.number ns) l (only ns ls)

abbrev pub numbers : List Line → List ℕ
numbers [] = []
numbers (l ∷ ls) = l.number ∷ numbers ls
