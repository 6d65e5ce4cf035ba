-- A good book and room for the work give what each step asks for, and the steps give the table of its loops. Assumes nothing.
use Prim.Native.Nat.{ℕ, ◌+◌, ◌-◌, ◌≤◌}
use native.Mathlib.Omega.{arith}
use mathlib.Core.Path.{◌≡◌, refl, ◌∙◌, ap, ap₂, subst}
use mathlib.Core.List.{List, [], ◌∷◌}
use lib.IntN.{ℤ}
use lib.ListN.{length, length-append}
use Rattle.book.specs.Line.{line_count}
use Rattle.book.specs.Good.{GoodLines}
use Rattle.book.specs.declared.Book.{Book}
use Rattle.book.proofs.Places.{count_of_lem}
use Rattle.network.specs.Standing.{standing}
use Rattle.network.specs.Tree.{tree, pieces}
use Rattle.loops.specs.Loops.{Loop, loops}
use Rattle.loops.specs.LinesInAll.{lines_in_all, most_lines_in_all}
use Rattle.loops.specs.Report.{loops_of, pieces_of}
use Rattle.loops.specs.Table.{runs_of, Table}
use Rattle.loops.proofs.LinesInAll.{lines_in_all_at_most}
use Rattle.network.proofs.Standing.{few_standing}
use Rattle.loops.proofs.Sounding.{lines_sound, few_loops}
use Rattle.loops.proofs.Table.{codes_length}
use Rattle.network.specs.Codes.{codes}
use Rattle.chains.specs.Listed.{Listed}
use Rattle.prepare.specs.Prepared.{BookPlanted}
use Rattle.table.specs.Ordered.{Started}
use Rattle.table.specs.Filled.{RoomTable, RoomWork, found_in, Ready, Fills, Filled}
use Rattle.table.specs.declared.Found.{Found}

-- as many entries as the loops have lines in all
runs_length : (ls : List Loop) → length (runs_of ls) ≡ lines_in_all ls
unfolding runs_of lines_in_all
runs_length [] = refl
runs_length (lp ∷ ls) = length-append (codes lp) (runs_of ls) ∙ ap₂ (λ (a b : ℕ). a + b) (codes_length lp) (runs_length ls)

module _ (k : Book) (ls : List ℤ) (g : GoodLines k ls) where
  -- the count of lines, by the slice and by the book
  lines_are : line_count ls ≡ k.lines
  lines_are = count_of_lem ls k.lines g.good.whole

  marks_are : k.marks + 1 - 1 ≡ k.marks
  marks_are = omega arith

  -- the numbers of the lines are below the count of lines and one more
  pub listed_of : {ends head next best order : List ℕ} → BookPlanted (k.marks + 1) ls ends head next best order
      → Listed (standing ls) (k.marks + 1) (k.lines + 1) ends
  listed_of {ends = ends} p = subst (λ (q : ℕ). Listed (standing ls) (k.marks + 1) (q + 1) ends) lines_are p.listed

  module _ {ends head next best seg order close : List ℕ} (w : RoomWork ends head next best seg order close) where
    -- and after the closing lines are in their order
    module _ {ends' head₁ next₁ best' order' head' next' close' : List ℕ} {found : Found}
        (p : BookPlanted (k.marks + 1) ls ends' head₁ next₁ best' order')
        (s : Started (k.marks + 1) (standing ls) head' next' close' found) where
      ready : Ready (standing ls) (k.marks + 1) found.count ends' close' head' next'
      ready = record { q = k.lines + 1; listed = listed_of p; going = s.going; count_is = s.count_is }

      loops_are : loops (k.marks + 1 - 1) (standing ls) ≡ loops_of k.marks ls
      unfolding loops_of
      loops_are = ap (λ (b : ℕ). loops b (standing ls)) marks_are

      pub count_is : found.count ≡ length (loops_of k.marks ls)
      count_is = s.count_is ∙ ap length loops_are

      runs_few : length (runs_of (loops (k.marks + 1 - 1) (standing ls))) ≤ most_lines_in_all
      runs_few =
          let few =
          lines_in_all_at_most k.marks (standing ls) (lines_sound k ls g)
          (omega (arith, few_standing ls, g.good.whole, g.good.few)) in
          omega (
            arith,
            runs_length (loops (k.marks + 1 - 1) (standing ls)),
            ap (λ (b : ℕ). lines_in_all (loops b (standing ls)))
                marks_are,
            few,
          )

      pub fills_of : {seg' starts runs : List ℕ} → RoomTable starts runs → length close' ≡ length close → length best' ≡ length best
          → length seg' ≡ length seg
          → Fills (k.marks + 1) found.count ends' close' head' next' best' seg' starts runs
      fills_of r lc lb lg = record {
        bounded = p.bounded;
        room = record {
          few = omega (arith, g.few_marks);
          bests = omega (arith, w.book.by_mark, g.few_marks);
          segs = omega (arith, w.book.tournament, g.few_marks);
        };
        closes = omega (arith, count_is, few_loops k ls g, g.good.few, w.by_loop);
        starts_fit = omega (arith, count_is, few_loops k ls g, g.good.few, r.starts_fit);
        lines = standing ls;
        ready = ready;
        runs_fit = omega (arith, runs_few, r.runs_fit, g.few_marks);
      }

      pub found_is : found ≡ found_in k.marks ls
      unfolding pieces_of
      found_is =
          ap₂ (λ (c n : ℕ). record { count = c; pieces = n }) count_is
          (s.pieces_are ∙ ap (λ (b : ℕ). pieces (tree b (standing ls))) marks_are)

      pub table_is : {starts' runs' : List ℕ} → Filled (k.marks + 1) found.count ends' close' head' next' starts' runs'
          → Table (loops_of k.marks ls) starts' runs' found.count
      table_is {starts' = starts'} {runs' = runs'} f =
          subst (λ (l : List Loop). Table l starts' runs' found.count) loops_are (f (standing ls) ready)
