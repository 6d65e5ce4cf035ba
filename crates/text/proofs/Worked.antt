-- Document 01, "Worked network": the report, line by line; and lines of a junction sketch.
-- Assumes nothing.
use mathlib.Core.Path.{◌≡◌, refl}
use mathlib.Core.List.{[], ◌∷◌, ◌++◌}
use Prim.Native.Nat.{ℕ}
use lib.IntN.{ℤ, pos, neg_ℤ}
use Rattle.laws.specs.Tests.{eq_z}
use Rattle.text.specs.Bytes.{bytes}
use Rattle.text.specs.Number.{digits, decimal, signed_text}
use Rattle.text.specs.Report.{head_text, listed_text, verdict_text, loop_text, not_checked_text, refused_text}
use Rattle.text.specs.Sketch.{sketch_head_text, measured_text, link_text, spur_text, self_closing_text}

-- a line's number, run against its sense; a misclosure below 0
abbrev minus : ℕ → ℤ
minus n = neg_ℤ (pos n)

pub report : head_text 1 5 7 1 3
    ++ loop_text 1 (pos 4450) (minus 40000) (pos 1) (pos 6 ∷ minus 1 ∷ pos 5 ∷ [])
    ++ loop_text 2 (pos 7600) (minus 5000) (pos 0) (pos 4 ∷ pos 5 ∷ minus 7 ∷ [])
    ++ loop_text 3 (pos 6750) (pos 65000) (pos 1) (pos 3 ∷ pos 2 ∷ minus 6 ∷ minus 7 ∷ [])
    ++ not_checked_text []
    ≡ bytes "LEVEL BOOK 1\n"
    ++ bytes "MARKS 5 LINES 7 PIECES 1 LOOPS 3\n"
    ++ bytes "LOOP 1 LENGTH 4450 MISCLOSURE -40000 OVER: 6 -1 5\n"
    ++ bytes "LOOP 2 LENGTH 7600 MISCLOSURE -5000 WITHIN: 4 5 -7\n"
    ++ bytes "LOOP 3 LENGTH 6750 MISCLOSURE 65000 OVER: 3 2 -6 -7\n"
    ++ bytes "NOT CHECKED 0:\n"
unfolding bytes digits decimal signed_text head_text listed_text verdict_text loop_text not_checked_text eq_z
report = refl

-- case (e): line 2 not checked
pub line_2_not_checked : not_checked_text (pos 2 ∷ []) ≡ bytes "NOT CHECKED 1: 2\n"
unfolding bytes digits decimal signed_text listed_text not_checked_text
line_2_not_checked = refl

-- "as `REFUSED 7 AT 3`"
pub refused : refused_text 7 3 ≡ bytes "REFUSED 7 AT 3\n"
unfolding bytes digits decimal refused_text
refused = refl

-- Request 01, "The program": lines of the Memorandum's sketch
pub sketch : sketch_head_text 16 20 6 4 2
    ++ link_text (pos 1) (pos 2) (pos 200) (pos 0) (pos 1 ∷ pos 2 ∷ [])
    ++ link_text (pos 1) (pos 4) (pos 100) (pos 0) (minus 6 ∷ [])
    ++ spur_text (pos 12) (pos 200) (pos 0) (minus 15 ∷ minus 14 ∷ [])
    ++ self_closing_text (pos 12) (pos 300) (pos 0) (pos 16 ∷ pos 17 ∷ pos 18 ∷ [])
    ≡ bytes "JUNCTION SKETCH\n"
    ++ bytes "MARKS 16 LINES 20 LINKS 6 SPURS 4 LOOPS 2\n"
    ++ bytes "LINK 1 2 LENGTH 200 DIFFERENCE 0: 1 2\n"
    ++ bytes "LINK 1 4 LENGTH 100 DIFFERENCE 0: -6\n"
    ++ bytes "SPUR 12 LENGTH 200 DIFFERENCE 0: -15 -14\n"
    ++ bytes "LOOP 12 LENGTH 300 MISCLOSURE 0: 16 17 18\n"
unfolding bytes digits decimal signed_text listed_text sketch_head_text measured_text link_text spur_text self_closing_text
sketch = refl
