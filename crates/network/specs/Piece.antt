-- Pieces and their roots. Document 01: "A piece is a set of marks joined by lines .. their lowest mark, which is the root".
-- Assumes nothing.
use Rattle.std.specs.Prelude.{ℕ, zero, suc, ◌+◌, ◌<◌, Bool, true, false, cond, List, [], ◌∷◌, eqb}
use Rattle.std.proofs.Math.Option.{Option, none, some}
use Rattle.network.specs.Standing.{Line}
use Rattle.network.specs.Walk.{Pass, Walk}
use Rattle.network.specs.Tree.{Tree}

-- mark m is the lowest of its piece: no walk leads from it to a lower mark
abbrev pub LowestOfPiece : List Line → ℕ → Type 0
LowestOfPiece lines m = (r : ℕ) → 0 < r → r < m → (w : List Pass) → Walk lines r m w → ⊥

-- an entry by no line is a root
abbrev pub root_if : Option Line → Bool
root_if none = true
root_if (some l) = false

-- mark m entered as a root
unfoldable pub root_at : Tree → ℕ → Bool
root_at [] m = false
root_at (e ∷ es) m = cond (eqb e.mark m) (root_if e.by) (root_at es m)

abbrev pub bit : Bool → ℕ
bit true = 1
bit false = 0

-- how many of the marks 1 to b pass the test f
unfoldable pub count_to : (ℕ → Bool) → ℕ → ℕ
count_to f zero = 0
count_to f (suc b) = bit (f (suc b)) + count_to f b
