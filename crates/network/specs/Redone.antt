-- Lines measured again: what may change in a line without touching the loops. Document 01: "Re-run sets the line's difference to the new
-- one .. and nothing else in the book changes".
-- Assumes nothing.
use Rattle.std.specs.Prelude.{ℕ, cond, List, map, eqb, ℤ}
use Rattle.network.specs.Standing.{Line, line}
use Rattle.network.specs.Walk.{Pass, pass}

-- what of a line neither tree nor paths look at: its difference and its class
pub record Measure : Type 0 where
  pub difference : ℤ
  pub class : ℤ

-- a line with another difference, and another class
abbrev pub measured : (Line → Measure) → Line → Line
measured g l = line l.number l.from l.to (g l).difference l.length (g l).class

-- the difference d for line n, and its own for any other; every class stays
abbrev pub new_difference : ℕ → ℤ → Line → Measure
new_difference n d l = record { difference = cond (eqb l.number n) d l.difference; class = l.class }

-- the lines once line n is re-run with the difference d
abbrev pub redone : ℕ → ℤ → List Line → List Line
redone n d lines = map (measured (new_difference n d)) lines

-- a pass over a line measured again
abbrev pub measured_pass : (Line → Measure) → Pass → Pass
measured_pass g p = pass (measured g p.line) p.forward

abbrev pub redone_pass : ℕ → ℤ → Pass → Pass
redone_pass n d p = measured_pass (new_difference n d) p
