-- Request 01, "The program": the sketch of the Memorandum's network, to the byte.
-- Assumes nothing.
use mathlib.Core.Path.{◌≡◌, refl}
use mathlib.Core.List.{◌++◌}
use Rattle.laws.specs.Scan.{first_from}
use Rattle.links.specs.Sketch.{sketch_of}
use Rattle.links.proofs.Memorandum.{memorandum}
use Rattle.text.specs.Bytes.{bytes}
use Rattle.text.specs.Number.{digits, decimal, signed_text}
use Rattle.text.specs.Report.{listed_text}
use Rattle.text.specs.Sketch.{measured_text}
use Rattle.page.specs.Sketch.{sketch_page}

pub memorandum_printed : sketch_page 16 20 (sketch_of 16 memorandum) ≡
    bytes "JUNCTION SKETCH\n"
    ++ bytes "MARKS 16 LINES 20 LINKS 6 SPURS 4 LOOPS 2\n"
    ++ bytes "LINK 1 2 LENGTH 200 DIFFERENCE 0: 1 2\n"
    ++ bytes "LINK 2 3 LENGTH 100 DIFFERENCE 0: 3\n"
    ++ bytes "LINK 3 4 LENGTH 200 DIFFERENCE 0: 4 5\n"
    ++ bytes "LINK 1 4 LENGTH 100 DIFFERENCE 0: -6\n"
    ++ bytes "LINK 1 3 LENGTH 200 DIFFERENCE 0: 7 8\n"
    ++ bytes "LINK 2 4 LENGTH 100 DIFFERENCE 0: 9\n"
    ++ bytes "SPUR 16 LENGTH 100 DIFFERENCE 0: -20\n"
    ++ bytes "SPUR 15 LENGTH 100 DIFFERENCE 0: -19\n"
    ++ bytes "SPUR 12 LENGTH 200 DIFFERENCE 0: -15 -14\n"
    ++ bytes "SPUR 8 LENGTH 100 DIFFERENCE 0: -10\n"
    ++ bytes "LOOP 12 LENGTH 300 MISCLOSURE 0: 16 17 18\n"
    ++ bytes "LOOP 8 LENGTH 300 MISCLOSURE 0: 11 12 13\n"
unfolding sketch_page sketch_of first_from bytes digits decimal signed_text listed_text measured_text
memorandum_printed = refl
