-- The list of the lines that are not checked. Document 01: "The not-checked list goes by rising line number."
-- Assumes nothing.
use Rattle.std.specs.Prelude.{ℕ, zero, suc, ◌+◌, ◌*◌, ◌-◌, ◌≤◌, Bool, not, ◌&&◌, cond, List, [], ◌∷◌, length, get_or, eqb}
use Rattle.network.specs.Standing.{Line}
use Rattle.network.specs.Tree.{tree}
use Rattle.loops.specs.Loops.{loops}
use Rattle.loops.specs.Checked.{not_checked}
use Rattle.chains.specs.Listed.{Listed}
use Rattle.tree.specs.Plant.{Holding}
use Rattle.closing.specs.Order.{Put}
use Rattle.unchecked.specs.Ways.{is_marked, Closes}

-- line j stands and is not marked
abbrev pub is_open : List ℕ → List ℕ → ℕ → Bool
is_open ends marked j = not (eqb (get_or ends (j * 2) 0) 0) && not (is_marked marked j)

-- of the k numbers from j on, those of the lines that stand and are not marked
unfoldable pub open_from : List ℕ → List ℕ → ℕ → ℕ → List ℕ
open_from ends marked j zero = []
open_from ends marked j (suc k) = cond (is_open ends marked j) (j ∷ open_from ends marked (suc j) k) (open_from ends marked (suc j) k)

-- room for the numbers below q
pub record RoomOpen (ends marked out : List ℕ) (q : ℕ) : Type 0 where
  pub ends_at : q * 2 ≤ length ends
  pub marks : q ≤ length marked
  pub outs : q ≤ length out + 1

-- what the not-checked list asks for: the tables and the tree of some lines, and room for their numbers
pub record Ready (ends best marked out : List ℕ) (q : ℕ) : Type 0 where
  pub closes : Closes ends best marked q
  pub outs : q ≤ length out + 1

-- the definition's list is written out
abbrev pub NotChecked : List ℕ → List ℕ → List ℕ → List ℕ → ℕ → ℕ → Type 0
NotChecked ends best out out' q a =
    (n : ℕ) (order : List ℕ) (lines : List Line) → Listed lines n q ends → Holding (tree (n - 1) lines) best order ends
    → Put (not_checked (loops (n - 1) lines) lines) out out' a
