-- Request 01, "The program": what the sketch program prints.
-- Assumes nothing.
use Rattle.std.specs.Prelude.{List, ◌++◌, ℕ, ℤ}
use Rattle.text.specs.Bytes.{bytes}
use Rattle.text.specs.Number.{decimal, signed_text}
use Rattle.text.specs.Report.{listed_text}

-- JUNCTION SKETCH
-- MARKS 16 LINES 20 LINKS 6 SPURS 4 LOOPS 2
unfoldable pub sketch_head_text : ℕ → ℕ → ℕ → ℕ → ℕ → List ℕ
sketch_head_text marks lines links spurs loops =
    bytes "JUNCTION SKETCH\n"
    ++ bytes "MARKS " ++ decimal marks ++ bytes " LINES " ++ decimal lines
    ++ bytes " LINKS " ++ decimal links ++ bytes " SPURS " ++ decimal spurs ++ bytes " LOOPS " ++ decimal loops
    ++ bytes "\n"

-- the end of each line after its marks, as ` LENGTH 200 DIFFERENCE 0: 1 2`: the word is the difference's, with a space on either side
unfoldable pub measured_text : List ℕ → ℤ → ℤ → List ℤ → List ℕ
measured_text word length difference listing =
    bytes " LENGTH " ++ signed_text length
    ++ word ++ signed_text difference
    ++ bytes ":" ++ listed_text listing
    ++ bytes "\n"

-- LINK 1 2 LENGTH 200 DIFFERENCE 0: 1 2
unfoldable pub link_text : ℤ → ℤ → ℤ → ℤ → List ℤ → List ℕ
link_text first last length difference listing =
    bytes "LINK " ++ signed_text first ++ bytes " " ++ signed_text last
    ++ measured_text (bytes " DIFFERENCE ") length difference listing

-- SPUR 16 LENGTH 100 DIFFERENCE 0: -20
unfoldable pub spur_text : ℤ → ℤ → ℤ → List ℤ → List ℕ
spur_text mark length difference listing =
    bytes "SPUR " ++ signed_text mark ++ measured_text (bytes " DIFFERENCE ") length difference listing

-- LOOP 12 LENGTH 300 MISCLOSURE 0: 16 17 18
unfoldable pub self_closing_text : ℤ → ℤ → ℤ → List ℤ → List ℕ
self_closing_text mark length misclosure listing =
    bytes "LOOP " ++ signed_text mark ++ measured_text (bytes " MISCLOSURE ") length misclosure listing
