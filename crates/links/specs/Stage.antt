-- What holds at every stage of the sketch, as plain statements. That it does: proofs/Stages.antt.
-- Assumes nothing.
use Rattle.std.specs.Prelude.{ℕ, ◌≤◌, ◌<◌, ◌≡◌, length}
use mathlib.Core.List.{List, [], map, Memᴰ}
use Rattle.network.specs.Standing.{Line}
use Rattle.network.specs.Pairwise.{Pairwise}
use Rattle.network.specs.Walk.{Pass, Walk}
use Rattle.links.specs.Link.{Link, own_link}
use Rattle.links.specs.Sketch.{Sketch, in_all}
use Rattle.links.specs.Shape.{ByLowest, times_in, lines_in}

-- x is between marks of the book, and runs over lines that stand, one at least
pub record Drawn (b : ℕ) (lines : List Line) (x : Link) : Type 0 where
  pub first_low : 0 < x.first
  pub first_high : x.first ≤ b
  pub last_low : 0 < x.last
  pub last_high : x.last ≤ b
  pub some_line : x.way ≡ [] → ⊥
  pub over_lines : (p : Pass) → Memᴰ p x.way → Memᴰ p.line lines

-- x is drawn so, and runs its lines one after the other from its first mark to its last
pub record DrawnWay (b : ℕ) (lines : List Line) (x : Link) : Type 0 where
  pub drawn : Drawn b lines x
  pub walks : Walk lines x.last x.first x.way

-- the links that are left go by rising lowest line
abbrev pub Rises : Sketch → Type 0
Rises s = Pairwise ByLowest s.links

-- what holds at every stage of the sketch of the lines among b marks: the links that are left rise by lowest line; links and spurs are ways
-- from mark to mark; and each line is run as often, and as many are run in all, as at the start
pub record Stage (b : ℕ) (lines : List Line) (s : Sketch) : Type 0 where
  pub rises : Rises s
  pub link_way : (x : Link) → Memᴰ x s.links → DrawnWay b lines x
  pub spur_way : (x : Link) → Memᴰ x s.spurs → DrawnWay b lines x
  pub loop_drawn : (x : Link) → Memᴰ x s.loops → Drawn b lines x
  pub times_are : (n : ℕ) → times_in n (in_all s) ≡ times_in n (map own_link lines)
  pub lines_are : lines_in (in_all s) ≡ length lines
