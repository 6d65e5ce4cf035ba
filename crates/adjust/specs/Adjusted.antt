-- Document 01, "Adjustment", of a book that has passed its tests: start, sweeps, and the refusals 11, 12 and 13.
-- `held` and `lines` are the lent slices: two numbers to a held entry, six to a line.
-- Assumes nothing.
use Rattle.std.specs.Prelude.{ℕ, zero, suc, List, ℤ}
use Rattle.network.specs.Standing.{standing}
use Rattle.network.specs.Tree.{tree}
use Rattle.sights.specs.Sights.{sights_of}
use Rattle.sweeps.specs.Sweeps.{Settled, settled, unsettled, settle}
use Rattle.start.specs.Start.{held_height, is_held, rooted_by, unheld_piece, start_heights}

-- The sweeps and the heights, or a refusal's number and place
pub data Outcome : Type 0 where
  done : ℕ → List ℤ → Outcome
  refused : ℕ → ℕ → Outcome

-- 13: "a height in work .. outside its limit", with the mark; 12: "the 10,000th sweep still moved a mark", with 0
abbrev pub ended : Settled → Outcome
ended (settled n hs) = done n hs
ended (Settled.outside m) = refused 13 m
ended unsettled = refused 12 0

-- 11: "a piece has no held mark", with "its lowest mark, lowest of all such"; 0 is none
abbrev pub unless_unheld : ℕ → (Unit {0} → Outcome) → Outcome
unless_unheld zero go = go tt
unless_unheld (suc m) go = refused 11 (suc m)

unfoldable pub adjustment : ℕ → List ℤ → List ℤ → Outcome
unfolding start_heights settle unheld_piece
adjustment b held lines =
    unless_unheld (unheld_piece (rooted_by (tree b (standing lines))) (held_height held) b)
    (λ _. ended (settle (sights_of (standing lines)) (is_held held) b (start_heights b held lines)))
