-- A run of the table, and how it is listed. Assumes nothing.
use Rattle.std.specs.Prelude.{ℕ, ◌/◌, ◌%◌, ◌<◌, cond, List, eqb, ℤ, pos, neg_ℤ, length, get_or}

-- more than any code: a line's number and its sense in one
abbrev pub code_limit : ℕ
code_limit = 2048

-- "A line is listed positive if run from its from to its to, else negative."
unfoldable pub listed_by : ℕ → ℤ
listed_by code = cond (eqb (code % 2) 0) (pos (code / 2)) (neg_ℤ (pos (code / 2)))

abbrev pub Coded : List ℕ → Type 0
Coded run = (i : ℕ) → i < length run → get_or run i 0 < code_limit
