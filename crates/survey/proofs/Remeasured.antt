-- A tested book with one line run again: its loops are the same lines in the same senses, so that the table of the loops is that of the
-- book before.
-- Assumes nothing.
use Prim.Native.Nat.{ℕ, suc}
use mathlib.Core.Path.{◌≡◌, sym, ◌∙◌, ap, ap₂, subst}
use mathlib.Core.List.{List, map}
use lib.IntN.{ℤ}
use lib.ListN.{length, length-map}
use Rattle.network.specs.Standing.{Line, standing}
use Rattle.book.specs.Line.{difference_field}
use Rattle.network.specs.Redone.{new_difference, redone, redone_pass}
use Rattle.network.specs.Tree.{tree, pieces}
use Rattle.network.proofs.Corrected.{rerun_sets_difference}
use Rattle.loops.specs.Loops.{Loop, loops}
use Rattle.loops.specs.Report.{loops_of, pieces_of}
use Rattle.loops.specs.Table.{Table}
use Rattle.loops.proofs.Rerun.{rerun_keeps_loops, rerun_keeps_pieces}
use Rattle.loops.proofs.Table.{table_again}
use Rattle.table.specs.Filled.{found_in}
use Rattle.survey.specs.Stands.{Stands}
use Rattle.survey.specs.Correction.{rerun_lines}
use Rattle.survey.proofs.Corrected.{place_is, has_line}

module _ (b : ℕ) (lines : List ℤ) (number difference : ℤ) (i : ℕ) (stands : Stands lines number i) where
  lines_again : standing (rerun_lines lines number difference) ≡ redone (suc i) difference (standing lines)
  unfolding rerun_lines
  lines_again = rw (place_is stands difference_field) (rerun_sets_difference lines i difference (has_line stands))

  loops_again : loops_of b (rerun_lines lines number difference) ≡ map (map (redone_pass (suc i) difference)) (loops_of b lines)
  unfolding loops_of
  loops_again = ap (loops b) lines_again ∙ rerun_keeps_loops (suc i) difference b (standing lines)

  -- the loops and pieces are as many
  pub found_again : found_in b (rerun_lines lines number difference) ≡ found_in b lines
  unfolding pieces_of
  found_again = ap₂ (λ (c p : ℕ). record { count = c; pieces = p })
      (ap length loops_again ∙ length-map (loops_of b lines) (map (redone_pass (suc i) difference)))
      (ap (λ (l : List Line). pieces (tree b l)) lines_again ∙ rerun_keeps_pieces (suc i) difference b (standing lines))

  -- and the table is the same
  pub table_of_again : {starts runs : List ℕ} {count : ℕ} → Table (loops_of b lines) starts runs count
      → Table (loops_of b (rerun_lines lines number difference)) starts runs count
  table_of_again {starts = starts} {runs = runs} {count = count} t =
      subst (λ (ls : List Loop). Table ls starts runs count) (sym loops_again) (table_again (new_difference (suc i) difference) t)
