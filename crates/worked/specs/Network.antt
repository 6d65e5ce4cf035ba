-- Document 01, "Worked network": its table and its file.
-- Assumes nothing.
use Rattle.std.specs.Prelude.{List, [], ◌∷◌, ◌++◌, ℕ, ℤ, pos}
use Rattle.book.specs.Version.{no_class}

-- a standing line of this class, and of none
abbrev pub classed : ℤ → ℕ → ℕ → ℕ → ℕ → List ℤ
classed class from to difference length = pos from ∷ pos to ∷ pos difference ∷ pos length ∷ pos 1 ∷ class ∷ []

abbrev pub line : ℕ → ℕ → ℕ → ℕ → List ℤ
line = classed no_class

-- the lines, all of one class
unfoldable pub lines_of : ℤ → List ℤ
lines_of class =
    classed class 1 3 6345000 1600
    ++ classed class 2 3 4235000 2500
    ++ classed class 5 2 3060000 1000
    ++ classed class 5 1 920000 4000
    ++ classed class 1 4 3895000 1600
    ++ classed class 4 3 2410000 1250
    ++ classed class 5 4 4820000 2000

unfoldable pub lines : List ℤ
unfolding lines_of
lines = lines_of no_class

-- "A held at 100,000,000"
unfoldable pub held : List ℤ
held = pos 1 ∷ pos 100000000 ∷ []

-- 107 bytes: the head, one held entry, seven lines
unfoldable pub file : List ℕ
file =
    0 ∷ 0 ∷ 0 ∷ 107 ∷ 1 ∷ 0 ∷ 120 ∷ 0 ∷ 5 ∷ 0 ∷ 1 ∷ 0 ∷ 7 ∷
    0 ∷ 1 ∷ 0 ∷ 0 ∷ 0 ∷ 0 ∷ 5 ∷ 245 ∷ 225 ∷ 0 ∷
    0 ∷ 1 ∷ 0 ∷ 3 ∷ 0 ∷ 96 ∷ 209 ∷ 40 ∷ 0 ∷ 0 ∷ 6 ∷ 64 ∷
    0 ∷ 2 ∷ 0 ∷ 3 ∷ 0 ∷ 64 ∷ 158 ∷ 248 ∷ 0 ∷ 0 ∷ 9 ∷ 196 ∷
    0 ∷ 5 ∷ 0 ∷ 2 ∷ 0 ∷ 46 ∷ 177 ∷ 32 ∷ 0 ∷ 0 ∷ 3 ∷ 232 ∷
    0 ∷ 5 ∷ 0 ∷ 1 ∷ 0 ∷ 14 ∷ 9 ∷ 192 ∷ 0 ∷ 0 ∷ 15 ∷ 160 ∷
    0 ∷ 1 ∷ 0 ∷ 4 ∷ 0 ∷ 59 ∷ 110 ∷ 216 ∷ 0 ∷ 0 ∷ 6 ∷ 64 ∷
    0 ∷ 4 ∷ 0 ∷ 3 ∷ 0 ∷ 36 ∷ 198 ∷ 16 ∷ 0 ∷ 0 ∷ 4 ∷ 226 ∷
    0 ∷ 5 ∷ 0 ∷ 4 ∷ 0 ∷ 73 ∷ 140 ∷ 32 ∷ 0 ∷ 0 ∷ 7 ∷ 208 ∷ []
