-- The order of the closing lines, as a plain statement.
-- Assumes nothing.
use Rattle.std.specs.Prelude.{◌<◌, ◌≡◌, ◌⊎◌, ◌↔◌}
use mathlib.Core.List.{List, [], ◌∷◌, ◌++◌, Memᴰ}
use Rattle.std.proofs.Math.Option.{some}
use Rattle.network.specs.Standing.{Line}
use Rattle.network.specs.Pairwise.{Pairwise}
use Rattle.network.specs.Tree.{Entry, Tree, Candidate, score, far}
use Rattle.network.specs.Closing.{just_lines}

-- "Every candidate that now has both ends in the tree": c was a candidate of the tree es before e entered, its far mark is the mark of e,
-- and e did not enter by it
pub record ClosesAt (lines : List Line) (es : Tree) (e : Entry) (c : Candidate) : Type 0 where
  pub is_line : Memᴰ c.line lines
  pub its_score : score es c.line ≡ some c.score
  pub reaches : far es c.line ≡ e.mark
  pub not_entered : (k : Line) → e.by ≡ some k → k.number ≡ c.line.number → ⊥

-- "by score, then number"
abbrev pub Sooner : Candidate → Candidate → Type 0
Sooner c d = (c.score < d.score) ⊎ ((c.score ≡ d.score) × (c.line.number < d.line.number))

-- each line once: no two lines of one number
abbrev pub Distinct : List Line → Type 0
Distinct ls = Pairwise (λ (c k : Line). c.number ≡ k.number → ⊥) ls

-- the closing lines of a tree: at each entry, after those of the entries before it, all that close there, "by score, then number"
pub data ClosingOrder (lines : List Line) : Tree → List Line → Type 0 where
  none_yet : ClosingOrder lines [] []
  closed_at : {e : Entry} {es : Tree} {ls : List Line} {cs : List Candidate} → ClosingOrder lines es ls → Pairwise Sooner cs
      → ((c : Candidate) → Memᴰ c cs ↔ ClosesAt lines es e c) → ClosingOrder lines (e ∷ es) (ls ++ just_lines cs)
