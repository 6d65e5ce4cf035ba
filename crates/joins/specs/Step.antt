-- The sketch in two tables, and what a step makes of it there. Assumes nothing.
use Rattle.std.specs.Prelude.{ℕ, ◌+◌, ◌≤◌, ◌<◌, ◌≡◌, true, false, length}
use mathlib.Core.List.{List, ◌∷◌, ◌++◌, Memᴰ}
use Rattle.book.specs.Limits.{most_lines}
use Rattle.network.specs.Standing.{Line}
use Rattle.links.specs.Link.{Link, closes_on_itself}
use Rattle.links.specs.Ends.{ends_at, TwoEnds}
use Rattle.links.specs.Sketch.{Sketch, sketch, in_all, spur_off, loop_off, merged_at, step, steps, finished}
use Rattle.links.specs.Stage.{Stage}
use Rattle.joins.specs.Tables.{Holds}
use Rattle.joins.specs.declared.Counts.{Counts}

-- the sketch s, as far as it has come, in the tables
pub record Tabled (s : Sketch) (rows runs : List ℕ) (c : Counts) : Type 0 where
  pub held : Holds (in_all s) rows runs
  pub links_are : c.links ≡ length s.links
  pub spurs_are : c.spurs ≡ length s.spurs
  pub loops_are : c.loops ≡ length s.loops

-- no more links, spurs and loops than there are rows, and no more rows than a book has lines
pub record Room (rows : List ℕ) (c : Counts) : Type 0 where
  pub few : length rows ≤ most_lines
  pub enough : c.links + c.spurs + c.loops ≤ length rows

-- ---- 1. a spur

-- some sketch is in the tables, and mark m has a link end in it
pub record EndIn (m : ℕ) (rows runs : List ℕ) (c : Counts) : Type 0 where
  pub sketch : Sketch
  pub tabled : Tabled sketch rows runs c
  pub some_link : 0 < c.links
  pub some_end : 0 < ends_at m sketch.links

abbrev pub SpurTaken : ℕ → Counts → List ℕ → List ℕ → List ℕ → List ℕ → Counts → Type 0
SpurTaken m c rows runs rows' runs' c' =
    (s : Sketch) → Tabled s rows runs c → 0 < ends_at m s.links → Tabled (spur_off m s) rows' runs' c'

-- ---- 2. a self-closing loop

-- the link x, at place i, is the first of the links that closes on itself
pub record FirstLoop (i : ℕ) (links : List Link) (x : Link) : Type 0 where
  pub before : List Link
  pub after : List Link
  pub links_are : links ≡ before ++ x ∷ after
  pub at : length before ≡ i
  pub closes : closes_on_itself x ≡ true
  pub none_before : (y : Link) → Memᴰ y before → closes_on_itself y ≡ false

pub record LoopIn (i : ℕ) (rows runs : List ℕ) (c : Counts) : Type 0 where
  pub sketch : Sketch
  pub tabled : Tabled sketch rows runs c
  pub its : Link
  pub first : FirstLoop i sketch.links its
  pub some_link : 0 < c.links
  pub some_line : 0 < length its.way

abbrev pub LoopTaken : ℕ → Counts → List ℕ → List ℕ → List ℕ → List ℕ → Counts → Type 0
LoopTaken i c rows runs rows' runs' c' =
    (s : Sketch) → Tabled s rows runs c → (x : Link) → FirstLoop i s.links x → Tabled (loop_off x s) rows' runs' c'

-- ---- 3. a merge

pub record TwoIn (m : ℕ) (rows runs : List ℕ) (c : Counts) : Type 0 where
  pub sketch : Sketch
  pub tabled : Tabled sketch rows runs c
  pub some_link : 0 < c.links
  pub two : TwoEnds m sketch.links

abbrev pub Merged : ℕ → Counts → List ℕ → List ℕ → List ℕ → List ℕ → Counts → Type 0
Merged m c rows runs rows' runs' c' =
    (s : Sketch) → Tabled s rows runs c → TwoEnds m s.links
    → Tabled (sketch (merged_at m s.links) s.spurs s.loops) rows' runs' c'

-- ---- whichever is first

-- a stage of the sketch of some lines among b marks is in the tables
pub record StageIn (b : ℕ) (rows runs : List ℕ) (c : Counts) : Type 0 where
  pub lines : List Line
  pub sketch : Sketch
  pub stage : Stage b lines sketch
  pub tabled : Tabled sketch rows runs c

abbrev pub Stepped : ℕ → Counts → List ℕ → List ℕ → List ℕ → List ℕ → Counts → Type 0
Stepped b c rows runs rows' runs' c' =
    (lines : List Line) (s : Sketch) → Stage b lines s → Tabled s rows runs c → Tabled (step b s) rows' runs' c'

-- ---- until none is left

abbrev pub StepsTaken : ℕ → Counts → List ℕ → List ℕ → List ℕ → List ℕ → Counts → Type 0
StepsTaken b c rows runs rows' runs' c' =
    (lines : List Line) (s : Sketch) → Stage b lines s → Tabled s rows runs c → Tabled (steps b (length s.links) s) rows' runs' c'

-- ---- each link from its lower junction

pub record SketchIn (rows runs : List ℕ) (c : Counts) : Type 0 where
  pub sketch : Sketch
  pub tabled : Tabled sketch rows runs c

abbrev pub Finished : Counts → List ℕ → List ℕ → List ℕ → List ℕ → Type 0
Finished c rows runs rows' runs' = (s : Sketch) → Tabled s rows runs c → Tabled (finished s) rows' runs' c
