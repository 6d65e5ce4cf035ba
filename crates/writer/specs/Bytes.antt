-- Document 01: "The file, big-endian": the bytes of a number, which `be` of room file reads.
-- Assumes nothing.
use Rattle.std.specs.Prelude.{List, [], ◌∷◌, ◌++◌, ℕ, zero, suc, ◌/◌, ◌%◌, ℤ}
use Rattle.std.specs.Int.{w64}
use Rattle.std.proofs.Common.{of_z}

-- the k lowest bytes of a number, the highest of them first
unfoldable pub bytes_of : ℕ → ℕ → List ℕ
bytes_of zero x = []
bytes_of (suc k) x = bytes_of k (x / 256) ++ (x % 256 ∷ [])

-- a number of memory in k bytes: the lowest of its 64 bits, so that one definition is of unsigned and of signed ones
abbrev pub in_bytes : ℕ → ℤ → List ℕ
in_bytes k z = bytes_of k (of_z w64 z)
