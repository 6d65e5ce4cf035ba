-- The sketch of a book has no more links, spurs, loops and lines than a book has lines. Assumes nothing.
use Prim.Native.Nat.{◌≤◌}
use native.Mathlib.Omega.{arith}
use mathlib.Core.List.{List}
use lib.IntN.{ℤ}
use lib.ListN.{length}
use Rattle.book.specs.Limits.{most_lines}
use Rattle.book.specs.Good.{GoodLines}
use Rattle.book.specs.declared.Book.{Book}
use Rattle.network.specs.Standing.{standing}
use Rattle.network.proofs.Standing.{few_standing}
use Rattle.loops.proofs.Sounding.{lines_sound}
use Rattle.links.specs.Sketch.{Sketch, run_of}
use Rattle.links.proofs.EachLine.{run_is_as_many}
use Rattle.links.proofs.Shapes.{no_more_than_lines}
use Rattle.junctions.specs.Call.{sketch_in}

pub record Few (s : Sketch) : Type 0 where
  pub links : length s.links ≤ most_lines
  pub spurs : length s.spurs ≤ most_lines
  pub loops : length s.loops ≤ most_lines
  pub lines : length (run_of s) ≤ most_lines

module _ (k : Book) (ls : List ℤ) (g : GoodLines k ls) where
  standing_few : length (standing ls) ≤ most_lines
  standing_few = omega (arith, few_standing ls, g.good.whole, g.good.few)

  pub few : Few (sketch_in k.marks ls)
  unfolding sketch_in
  few =
      let sound = lines_sound k ls g in
      let n = no_more_than_lines k.marks (standing ls) sound in
      record {
        links = omega (arith, n, standing_few);
        spurs = omega (arith, n, standing_few);
        loops = omega (arith, n, standing_few);
        lines = omega (arith, run_is_as_many k.marks (standing ls) sound, standing_few);
      }
