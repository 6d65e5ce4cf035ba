-- The not-checked list of a lent book. Assumes nothing.
use Rattle.std.specs.Prelude.{ℕ, ◌≤◌, List, ℤ, length}
use Rattle.book.specs.Limits.{most_lines}
use Rattle.network.specs.Standing.{standing}
use Rattle.loops.specs.Loops.{loops}
use Rattle.loops.specs.Checked.{not_checked}
use Rattle.chains.specs.Chains.{number_limit}
use Rattle.closing.specs.Order.{Put}

-- room for the marks and the list of any book
pub record RoomList (marked out : List ℕ) : Type 0 where
  pub marks : number_limit ≤ length marked
  pub outs : most_lines ≤ length out

-- the definition's list of the book's standing lines is written out
abbrev pub BookListed : ℕ → List ℤ → List ℕ → List ℕ → ℕ → Type 0
BookListed b ls out out' a = Put (not_checked (loops b (standing ls)) (standing ls)) out out' a
