-- What each loop is, as a plain statement.
-- Assumes nothing.
use Rattle.std.specs.Prelude.{◌≡◌, true, List, [], ◌∷◌}
use Rattle.network.specs.Standing.{Line}
use Rattle.network.specs.Walk.{Pass, pass, Walk, marks_on, AllDifferent, OnlyOnce}
use Rattle.loops.specs.Loops.{Loop}

-- "A loop runs its closing line from its from end to its to end, then back": it comes through no mark twice on its way back, and runs no
-- line twice
pub record IsLoopOf (lines : List Line) (c : Line) (lp : Loop) : Type 0 where
  pub path : List Pass
  pub closing_first : lp ≡ pass c true ∷ path
  pub closed : Walk lines c.from c.from lp
  pub no_mark_twice : AllDifferent (marks_on c.to path)
  pub no_line_twice : OnlyOnce lp

-- one loop to each line, in the order of the lines
pub data OneToOne (R : Line → Loop → Type 0) : List Line → List Loop → Type 0 where
  none_left : OneToOne R [] []
  each : {c : Line} {cs : List Line} {lp : Loop} {ls : List Loop} → R c lp → OneToOne R cs ls → OneToOne R (c ∷ cs) (lp ∷ ls)
