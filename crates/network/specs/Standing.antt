-- The standing lines of a lent book. Document 01: "Only standing lines count."
-- Assumes nothing.
use Rattle.std.specs.Prelude.{ℕ, zero, suc, List, [], ◌∷◌, ℤ, pos, negsuc, nat_abs}

-- A standing line: its number in the book, its two ends, its difference from `from` to `to` in micrometres, its length in metres, and its
-- class, or -1
pub record Line : Type 0 where
  pub number : ℕ
  pub from : ℕ
  pub to : ℕ
  pub difference : ℤ
  pub length : ℕ
  pub class : ℤ

abbrev pub line : ℕ → ℕ → ℕ → ℤ → ℕ → ℤ → Line
line n f t d l c = record { number = n; from = f; to = t; difference = d; length = l; class = c }

-- the line l in front of the others if it stands; "a withdrawn line keeps its number" and is left out. A book that passes its test has no
-- standing but 0 and 1
unfoldable pub keep : ℤ → Line → List Line → List Line
keep (pos zero) l ls = ls
keep (pos (suc k)) l ls = l ∷ ls
keep (negsuc k) l ls = ls

-- "a line is five signed 64-bit numbers in a lent slice: from, to, difference, length, standing", and request 04's sixth, its class; the
-- first line here has the number k
unfoldable pub standing_from : ℕ → List ℤ → List Line
unfolding keep
standing_from k [] = []
standing_from k (f ∷ []) = []
standing_from k (f ∷ t ∷ []) = []
standing_from k (f ∷ t ∷ d ∷ []) = []
standing_from k (f ∷ t ∷ d ∷ l ∷ []) = []
standing_from k (f ∷ t ∷ d ∷ l ∷ s ∷ []) = []
standing_from k (f ∷ t ∷ d ∷ l ∷ s ∷ c ∷ rest) =
    keep s (line k (nat_abs f) (nat_abs t) d (nat_abs l) c) (standing_from (suc k) rest)

-- "Lines are numbered from 1." The standing lines, by rising number
unfoldable pub standing : List ℤ → List Line
unfolding standing_from
standing lines = standing_from 1 lines
