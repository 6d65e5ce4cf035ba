-- The closing lines in their order, and the subgraph as it begins. Assumes nothing.
use Rattle.std.specs.Prelude.{ℕ, suc, ◌+◌, ◌-◌, ◌≤◌, ◌<◌, ◌≡◌, List, length}
use Rattle.book.specs.Limits.{most_marks, most_lines}
use Rattle.network.specs.Standing.{Line}
use Rattle.network.specs.Tree.{tree, pieces}
use Rattle.loops.specs.Loops.{loops}
use Rattle.chains.specs.Chains.{Bounded}
use Rattle.chains.specs.Link.{RoomChains}
use Rattle.chains.specs.Listed.{Listed}
use Rattle.tree.specs.Plant.{Holding, Below}
use Rattle.subgraph.specs.LoopTurn.{Going}
use Rattle.table.specs.declared.Found.{Found}

-- what is asked for: ends and the tree of some lines, in numbers below q, and room
pub record Orders (n q : ℕ) (ends head next best order close : List ℕ) : Type 0 where
  pub some_mark : 0 < n
  pub few_marks : n ≤ suc most_marks
  pub some_line : 0 < q
  pub few_lines : q ≤ suc most_lines
  pub bounded : Bounded n ends
  pub below : Below n order
  pub chains : RoomChains n head next
  pub bests : n ≤ length best
  pub orders : n ≤ length order
  pub closes : q ≤ length close + 1
  pub lines : List Line
  pub listed : Listed lines n q ends
  pub holding : Holding (tree (n - 1) lines) best order ends

-- before the first turn: so many loops, so many pieces
pub record Started (n : ℕ) (lines : List Line) (head next close : List ℕ) (found : Found) : Type 0 where
  pub going : Going n 0 lines close head next
  pub count_is : found.count ≡ length (loops (n - 1) lines)
  pub pieces_are : found.pieces ≡ pieces (tree (n - 1) lines)

abbrev pub Ordered : ℕ → ℕ → List ℕ → List ℕ → List ℕ → List ℕ → List ℕ → List ℕ → Found → Type 0
Ordered n q ends best order head next close found =
    (lines : List Line) → Listed lines n q ends → Holding (tree (n - 1) lines) best order ends → Started n lines head next close found
