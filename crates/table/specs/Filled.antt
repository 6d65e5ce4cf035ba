-- The table is filled, one loop's turn after the other. Assumes nothing.
use Rattle.std.specs.Prelude.{ℕ, suc, ◌+◌, ◌-◌, ◌≤◌, ◌<◌, ◌≡◌, List, ◌++◌, ℤ, length, get_or, take, drop}
use Rattle.book.specs.Limits.{most_marks, most_lines}
use Rattle.network.specs.Standing.{Line}
use Rattle.loops.specs.Loops.{loops}
use Rattle.loops.specs.Report.{loops_of, pieces_of}
use Rattle.loops.specs.LinesInAll.{most_lines_in_all}
use Rattle.loops.specs.Table.{runs_of, Table}
use Rattle.chains.specs.Chains.{Bounded}
use Rattle.chains.specs.Listed.{Listed}
use Rattle.search.specs.Front.{RoomSearch}
use Rattle.prepare.specs.Prepared.{RoomBook}
use Rattle.subgraph.specs.LoopTurn.{Going}
use Rattle.table.specs.declared.Found.{Found}

-- room for the table of any book's loops: "at most 65,792 entries in all", and one path more
pub record RoomTable (starts runs : List ℕ) : Type 0 where
  pub starts_fit : suc most_lines ≤ length starts
  pub runs_fit : most_lines_in_all + suc most_marks ≤ length runs

-- room for the work on any book
pub record RoomWork (ends head next best seg order close : List ℕ) : Type 0 where
  pub book : RoomBook ends head next best seg order
  pub by_loop : most_lines ≤ length close

-- what is found in a book of b marks: its loops and its pieces, by their counts
abbrev pub found_in : ℕ → List ℤ → Found
found_in b lines = record { count = length (loops_of b lines); pieces = pieces_of b lines }

-- so many loops, and the first is about to take its turn
pub record Ready (lines : List Line) (n count : ℕ) (ends close head next : List ℕ) : Type 0 where
  pub q : ℕ
  pub listed : Listed lines n q ends
  pub going : Going n 0 lines close head next
  pub count_is : count ≡ length (loops (n - 1) lines)

-- and there is room for its turn and for all others
pub record Fills (n count : ℕ) (ends close head next best seg starts runs : List ℕ) : Type 0 where
  pub bounded : Bounded n ends
  pub room : RoomSearch n best seg
  pub closes : count ≤ length close
  pub starts_fit : count < length starts
  pub lines : List Line
  pub ready : Ready lines n count ends close head next
  pub runs_fit : length (runs_of (loops (n - 1) lines)) + n ≤ length runs

-- the table is full
abbrev pub Filled : ℕ → ℕ → List ℕ → List ℕ → List ℕ → List ℕ → List ℕ → List ℕ → Type 0
Filled n count ends close head next starts' runs' =
    (lines : List Line) → Ready lines n count ends close head next → Table (loops (n - 1) lines) starts' runs' count

-- the first i loops are in the table, and the next run begins at place at
pub record FilledTo (lines : List Line) (n i at : ℕ) (close head next starts runs : List ℕ) : Type 0 where
  pub going : Going n i lines close head next
  pub at_is : at ≡ length (runs_of going.done)
  pub begins : (k : ℕ) → k < i → get_or starts k 0 ≡ length (runs_of (take k going.done))
  pub held : runs ≡ runs_of going.done ++ drop at runs
