-- The book drawn and its tree planted.
-- Assumes nothing.
use Rattle.std.specs.Prelude.{ℕ, suc, ◌+◌, ◌*◌, ◌-◌, ◌≤◌, List, ℤ, length}
use Rattle.network.specs.Standing.{standing}
use Rattle.network.specs.Tree.{tree}
use Rattle.book.specs.Line.{line_count}
use Rattle.book.specs.Limits.{most_marks}
use Rattle.chains.specs.Chains.{Bounded, InOrder, halves}
use Rattle.chains.specs.Listed.{Listed}
use Rattle.tree.specs.Plant.{Holding, Below}

-- room for the network and the tree of any book
pub record RoomBook (ends head next best seg order : List ℕ) : Type 0 where
  pub by_half : (halves ≤ length ends) × (halves ≤ length next)
  pub by_mark : (suc most_marks ≤ length head) × (suc most_marks ≤ length best) × (suc most_marks ≤ length order)
  pub tournament : 2 * suc most_marks ≤ length seg

-- ends, the chains and the tree of the standing lines
pub record BookPlanted (n : ℕ) (ls : List ℤ) (ends head next best order : List ℕ) : Type 0 where
  pub bounded : Bounded n ends
  pub ordered : InOrder (standing ls) n head next
  pub listed : Listed (standing ls) n (line_count ls + 1) ends
  pub holding : Holding (tree (n - 1) (standing ls)) best order ends
  pub below : Below n order
