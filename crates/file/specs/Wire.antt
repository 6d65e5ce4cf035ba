-- Document 01: "The file, big-endian".
-- Assumes nothing.
use Rattle.std.specs.Prelude.{List, ℕ, zero, suc, ◌+◌, ◌*◌, ◌<◌, get_or}

-- a file is a list of numbers that stand for bytes: each is below 256. What is read asks for none of it; that what was read is written with
-- the same bytes does.
abbrev pub Bytes : List ℕ → Type 0
Bytes s = (i : ℕ) → get_or s i 0 < 256

-- the number in the k bytes of s from place a on, the first byte the highest
unfoldable pub be : ℕ → List ℕ → ℕ → ℕ
be zero s a = 0
be (suc k) s a = be k s a * 256 + get_or s (a + k) 0
