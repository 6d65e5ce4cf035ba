-- What a row of the report says, and what the loop of that row is.
-- Assumes nothing.
use Rattle.std.specs.Prelude.{◌≡◌, ◌↔◌, true, false, ℕ, zero, suc, ◌+◌, ◌*◌, ◌≤◌, ◌<◌, ℤ, pos, nat_abs, length, get_or, take, drop}
use mathlib.Core.List.{List, ◌∷◌, ◌++◌, Memᴰ}
use Rattle.network.specs.Standing.{Line, standing}
use Rattle.network.specs.Tree.{Tree, tree, tree_lines}
use Rattle.network.specs.Closing.{closing}
use Rattle.network.specs.Subgraph.{only, numbers}
use Rattle.network.specs.Walk.{Pass, pass, Walk, way_length, IsShortest, marks_on, AllDifferent, OnlyOnce}
use Rattle.loops.specs.Loops.{Loop, loop_at}
use Rattle.loops.specs.Row.{misclosure, total, allowances, closing_number, row_words}
use Rattle.loops.specs.Row.{row_closing, row_count, row_length, row_misclosure, row_verdict}
use Rattle.loops.specs.Checked.{runs}
use Rattle.loops.specs.Report.{loops_of}
use Rattle.lists.specs.Listing.{Listing}

-- "A report row is five numbers: closing line, count of lines, length, misclosure, verdict": number j of row i, rows counted from 0
abbrev pub in_row : ℕ → List ℤ → ℕ → ℤ
in_row j report i = get_or report (row_words * i + j) (pos 0)

-- the counts of lines of the rows before row i, in all
unfoldable pub counts_before : List ℤ → ℕ → ℕ
counts_before report zero = zero
counts_before report (suc i) = counts_before report i + nat_abs (in_row row_count report i)

-- "With misclosure m and length L a loop is within exactly if m*m <= 10*t*t*L": over what its lines allow, which is so much by the theorem
-- `within_by_judged_length`
abbrev pub Within : ℕ → Loop → Type 0
Within t lp = nat_abs (misclosure lp) * nat_abs (misclosure lp) ≤ 10 * total (allowances t lp)

abbrev pub Over : ℕ → Loop → Type 0
Over t lp = 10 * total (allowances t lp) < nat_abs (misclosure lp) * nat_abs (misclosure lp)

-- row i of the report is the row of the loop lp, at the tolerance t
pub record RowOf (t : ℕ) (report : List ℤ) (i : ℕ) (lp : Loop) : Type 0 where
  pub closing_line : in_row row_closing report i ≡ pos (closing_number lp)
  pub count : in_row row_count report i ≡ pos (length lp)
  pub its_length : in_row row_length report i ≡ pos (way_length lp)
  pub its_misclosure : in_row row_misclosure report i ≡ misclosure lp
  pub within : (in_row row_verdict report i ≡ pos 0) ↔ Within t lp
  pub over : (in_row row_verdict report i ≡ pos 1) ↔ Over t lp

-- the tree of a lent book, its lines in the order in which they entered, and the closing lines in theirs
abbrev pub tree_of : ℕ → List ℤ → Tree
tree_of b lines = tree b (standing lines)

abbrev pub tree_lines_of : ℕ → List ℤ → List Line
tree_lines_of b lines = tree_lines (tree_of b lines)

abbrev pub closing_lines_of : ℕ → List ℤ → List Line
closing_lines_of b lines = closing (standing lines) (tree_of b lines)

-- "the tree with the closing lines added so far": all lines of the tree, and all closing lines before that of loop i. Those that document
-- 01 does not add are among them: that they change no loop is the theorem `not_added_changes_no_loop`
unfoldable pub subgraph : ℕ → List ℤ → ℕ → List Line
unfolding standing tree tree_lines closing only
subgraph b lines i = only (numbers (tree_lines_of b lines ++ take i (closing_lines_of b lines))) (standing lines)

-- loop i of a book of b marks, loops counted from 0: "A loop runs its closing line from its from end to its to end, then back by the
-- shortest path in the subgraph"
pub record LoopIs (b : ℕ) (lines : List ℤ) (i : ℕ) : Type 0 where
  pub closing_line : Line
  pub path : List Pass
  pub closing_line_first : loop_at (loops_of b lines) i ≡ pass closing_line true ∷ path
  pub closes : Memᴰ closing_line (closing_lines_of b lines)
  pub stands : Memᴰ closing_line (standing lines)
  pub not_in_tree : (l : Line) → Memᴰ l (tree_lines_of b lines) → closing_line.number ≡ l.number → ⊥
  pub not_in_earlier_loop : (j : ℕ) → j < i → runs closing_line.number (loop_at (loops_of b lines) j) ≡ false
  pub shortest : IsShortest (subgraph b lines i) closing_line.from closing_line.to path
  pub only_one : (other : List Pass) → IsShortest (subgraph b lines i) closing_line.from closing_line.to other → other ≡ path
  pub closed : Walk (standing lines) closing_line.from closing_line.from (loop_at (loops_of b lines) i)
  pub no_mark_twice_lem : AllDifferent (marks_on closing_line.to path)
  pub no_line_twice_lem : OnlyOnce (loop_at (loops_of b lines) i)

-- a list stands in the first places of the output, with the count of its entries, and all places past it are as they were
pub record ListedIn (list before : List ℤ) (given : Listing) : Type 0 where
  pub entries : given.answer.entries ≡ length list
  pub first_places : take (length list) given.out ≡ list
  pub past_it : drop (length list) given.out ≡ drop (length list) before
