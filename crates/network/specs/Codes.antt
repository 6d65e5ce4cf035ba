-- A pass in one number: a line with the sense in which it is run. Assumes nothing.
use Rattle.std.specs.Prelude.{ℕ, ◌+◌, ◌*◌, Bool, true, false, List, [], ◌∷◌}
use Rattle.network.specs.Walk.{Pass}

-- twice the line's number, one more against its sense
abbrev pub code_of : Bool → ℕ → ℕ
code_of true n = 2 * n
code_of false n = 2 * n + 1

-- a way, pass by pass
unfoldable pub codes : List Pass → List ℕ
codes [] = []
codes (p ∷ ps) = code_of p.forward p.line.number ∷ codes ps
