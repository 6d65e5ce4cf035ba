-- Document 01, "Worked network": what "the report program .. prints exactly".
-- Assumes nothing.
use Rattle.std.specs.Prelude.{cond, List, [], ◌∷◌, ◌++◌, ℕ, ℤ, pos, length}
use Rattle.laws.specs.Tests.{eq_z}
use Rattle.text.specs.Bytes.{bytes}
use Rattle.text.specs.Number.{decimal, signed_text}

-- LEVEL BOOK 1
-- MARKS 5 LINES 7 PIECES 1 LOOPS 3
-- request 04: "The program's first line names the version"
unfoldable pub head_text : ℕ → ℕ → ℕ → ℕ → ℕ → List ℕ
head_text version marks lines pieces loops =
    bytes "LEVEL BOOK " ++ decimal version
    ++ bytes "\nMARKS " ++ decimal marks ++ bytes " LINES " ++ decimal lines
    ++ bytes " PIECES " ++ decimal pieces ++ bytes " LOOPS " ++ decimal loops
    ++ bytes "\n"

-- "each after a space": lines run against their sense have a minus sign
unfoldable pub listed_text : List ℤ → List ℕ
listed_text [] = []
listed_text (line ∷ rest) = bytes " " ++ signed_text line ++ listed_text rest

-- "verdict (0 within, 1 over)", after a space
unfoldable pub verdict_text : ℤ → List ℕ
verdict_text verdict = cond (eq_z verdict (pos 0)) (bytes " WITHIN:") (bytes " OVER:")

-- LOOP 1 LENGTH 4450 MISCLOSURE -40000 OVER: 6 -1 5
unfoldable pub loop_text : ℕ → ℤ → ℤ → ℤ → List ℤ → List ℕ
loop_text number length misclosure verdict listing =
    bytes "LOOP " ++ decimal number
    ++ bytes " LENGTH " ++ signed_text length
    ++ bytes " MISCLOSURE " ++ signed_text misclosure
    ++ verdict_text verdict ++ listed_text listing
    ++ bytes "\n"

-- NOT CHECKED 1: 2
unfoldable pub not_checked_text : List ℤ → List ℕ
not_checked_text list = bytes "NOT CHECKED " ++ decimal (length list) ++ bytes ":" ++ listed_text list ++ bytes "\n"

-- REFUSED 7 AT 3
unfoldable pub refused_text : ℕ → ℕ → List ℕ
refused_text number place = bytes "REFUSED " ++ decimal number ++ bytes " AT " ++ decimal place ++ bytes "\n"
