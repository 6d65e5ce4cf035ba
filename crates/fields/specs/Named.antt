-- A mark by its number, as the code answers it. Assumes nothing.
use Rattle.std.specs.Prelude.{ℕ, zero, suc, Option, Some, None}

-- the mark of a number, and none where the number is 0
abbrev pub some_mark : ℕ → Option ℕ
some_mark zero = None
some_mark (suc m) = Some (suc m)
