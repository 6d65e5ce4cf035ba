-- Runs of codes: the other way, and begun elsewhere. Assumes nothing.
use Rattle.std.specs.Prelude.{ℕ, ◌+◌, ◌-◌, ◌*◌, ◌/◌, ◌%◌, ◌≤◌, ◌<◌, List, [], ◌∷◌, ◌++◌, length, take, drop, get_or}
use Rattle.network.specs.Codes.{codes}
use Rattle.links.specs.Link.{Link}

-- the same line in the other sense
abbrev pub flip_code : ℕ → ℕ
flip_code code = code / 2 * 2 + (1 - code % 2)

-- a run the other way
unfoldable pub turned_codes : List ℕ → List ℕ
turned_codes [] = []
turned_codes (code ∷ run) = turned_codes run ++ (flip_code code ∷ [])

-- what stands from place k on, and then what stands before it
abbrev pub rotated : {A : Type 0} → ℕ → List A → List A
rotated k l = drop k l ++ take k l

-- the line of the run at place k is the lowest, and the first such
pub record LowestAt (run : List ℕ) (k : ℕ) : Type 0 where
  pub is_there : k < length run
  pub no_lower : (j : ℕ) → j < length run → get_or run k 0 / 2 ≤ get_or run j 0 / 2
  pub first : (j : ℕ) → j < k → get_or run k 0 / 2 < get_or run j 0 / 2

-- the runs of links, one after the other
unfoldable pub codes_in : List Link → List ℕ
unfolding codes
codes_in [] = []
codes_in (x ∷ xs) = codes x.way ++ codes_in xs
