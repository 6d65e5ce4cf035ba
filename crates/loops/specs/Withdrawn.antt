-- What becomes of the loops when a closing line is withdrawn, as a plain statement.
-- Assumes nothing.
use Rattle.std.specs.Prelude.{ℕ, ◌≡◌, false, List, [], ◌∷◌}
use Rattle.loops.specs.Loops.{Loop}
use Rattle.loops.specs.Row.{closing_number}
use Rattle.loops.specs.Checked.{runs}

-- the loop of line x goes; every other keeps its closing line and its place among the rest, and stays as it is where it does not run line x
pub data Withdrawn (x : ℕ) : List Loop → List Loop → Type 0 where
  none_left : Withdrawn x [] []
  goes : {lp : Loop} {old new : List Loop} → closing_number lp ≡ x → Withdrawn x old new → Withdrawn x (lp ∷ old) new
  stays : {lp now : Loop} {old new : List Loop} → (closing_number lp ≡ x → ⊥) → closing_number now ≡ closing_number lp
      → (runs x lp ≡ false → now ≡ lp)
      → Withdrawn x old new → Withdrawn x (lp ∷ old) (now ∷ new)
