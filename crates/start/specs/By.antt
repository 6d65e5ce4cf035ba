-- The line by which a mark comes in, as the code has it: its place in the book. Assumes nothing.
use Rattle.std.specs.Prelude.{ℕ, suc, Option, Some, None}

-- the number of the line at a place, and 0 where a root comes in by none
abbrev pub number_of : Option ℕ → ℕ
number_of None = 0
number_of (Some i) = suc i
