-- The subgraph of document 01, "the tree with the closing lines added so far", as chains. Assumes nothing.
use Rattle.std.specs.Prelude.{ℕ, ◌-◌, ◌/◌, ◌%◌, ◌≤◌, ◌<◌, ◌≡◌, List, length}
use Rattle.network.specs.Standing.{Line}
use Rattle.network.specs.Tree.{tree, tree_lines}
use Rattle.network.specs.Subgraph.{only, numbers}
use Rattle.chains.specs.Chains.{Drawn, halves}
use Rattle.chains.specs.Link.{RoomChains, Joined}
use Rattle.chains.specs.Listed.{Listed}
use Rattle.tree.specs.Plant.{Holding, Below}

-- the line of the key has joined, one line; a key of 0 is a root's, and nothing has
pub data Laid (ends head next head' next' : List ℕ) (key r : ℕ) : Type 0 where
  stayed : key ≡ 0 → r ≡ 0 → head' ≡ head → next' ≡ next → Laid ends head next head' next' key r
  joined : (key ≡ 0 → ⊥) → r ≡ 1 → Joined ends head next head' next' (key % halves / 2) → Laid ends head next head' next' key r

-- the order of entry of the marks below n, and room for the chains of their tree
pub record RoomLay (n : ℕ) (best order head next : List ℕ) : Type 0 where
  pub some_mark : 0 < n
  pub bests : n ≤ length best
  pub orders : n ≤ length order
  pub below : Below n order
  pub chains : RoomChains n head next

-- the chains hold the tree's lines, which are r
pub record TreeDrawn (lines : List Line) (n : ℕ) (head next : List ℕ) (r : ℕ) : Type 0 where
  pub drawn : Drawn (only (numbers (tree_lines (tree (n - 1) lines))) lines) n head next
  pub count : r ≡ length (tree_lines (tree (n - 1) lines))

abbrev pub TreeLaid : ℕ → List ℕ → List ℕ → List ℕ → List ℕ → List ℕ → ℕ → Type 0
TreeLaid n ends best order head next r =
    (q : ℕ) (lines : List Line) → Listed lines n q ends → Holding (tree (n - 1) lines) best order ends → TreeDrawn lines n head next r
