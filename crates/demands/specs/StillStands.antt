-- Which of the morning's results still stand after a correction of line n.
-- Assumes nothing.
use Rattle.std.specs.Prelude.{◌≡◌, false, List, [], ◌∷◌, map, ℕ, suc, ℤ, length}
use Rattle.network.specs.Subgraph.{numbers}
use Rattle.network.specs.Walk.{way_length}
use Rattle.loops.specs.Loops.{Loop, loop_at}
use Rattle.loops.specs.Row.{listed, closing_number, row}
use Rattle.loops.specs.Checked.{runs}
use Rattle.loops.specs.Report.{loops_of, pieces_of}
use Rattle.demands.specs.TheLoops.{tree_of, tree_lines_of, closing_lines_of}

-- the loop is as it was: its lines and their sense, and its row, with misclosure and verdict
pub record SameLoop (t : ℕ) (before after : Loop) : Type 0 where
  pub lines_and_sense : map listed after ≡ map listed before
  pub whole_row : row t after ≡ row t before

-- of the old loops only that of closing line n may be gone; the others stay in their order, each with its closing line, and each that
-- does not run line n as it was
pub data StillStand (t n : ℕ) : List Loop → List Loop → Type 0 where
  none_left : StillStand t n [] []
  gone : {lp : Loop} {old new : List Loop} → closing_number lp ≡ n → StillStand t n old new → StillStand t n (lp ∷ old) new
  stays : {lp now : Loop} {old new : List Loop} → closing_number now ≡ closing_number lp → (runs n lp ≡ false → SameLoop t lp now)
      → StillStand t n old new
      → StillStand t n (lp ∷ old) (now ∷ new)

-- what a re-run leaves of any loop, also of one that runs the line
pub record SameWay (before after : Loop) : Type 0 where
  pub lines_and_sense : map listed after ≡ map listed before
  pub closing_line : closing_number after ≡ closing_number before
  pub count : length after ≡ length before
  pub long : way_length after ≡ way_length before

-- a re-run of line n: tree, closing lines, pieces and rows stay, each loop keeps its lines, sense and length in its place
pub record AfterRerun (b t n : ℕ) (lines lines' : List ℤ) : Type 0 where
  pub tree_kept : numbers (tree_lines_of b lines') ≡ numbers (tree_lines_of b lines)
  pub closing_lines_kept : numbers (closing_lines_of b lines') ≡ numbers (closing_lines_of b lines)
  pub pieces_kept : pieces_of b lines' ≡ pieces_of b lines
  pub rows_kept : length (loops_of b lines') ≡ length (loops_of b lines)
  pub each_loop : (i : ℕ) → SameWay (loop_at (loops_of b lines) i) (loop_at (loops_of b lines') i)
  pub other_loops : StillStand t n (loops_of b lines) (loops_of b lines')

-- a withdrawal of closing line n: tree and pieces stay, exactly one loop goes, and it is that of line n
pub record AfterClosingLine (b t n : ℕ) (lines lines' : List ℤ) : Type 0 where
  pub tree_kept : tree_of b lines' ≡ tree_of b lines
  pub pieces_kept : pieces_of b lines' ≡ pieces_of b lines
  pub one_loop_goes : suc (length (loops_of b lines')) ≡ length (loops_of b lines)
  pub other_loops : StillStand t n (loops_of b lines) (loops_of b lines')
