-- What the adjustment of a good book promises, sentence by sentence of document 01. `lines` and `held` are the lent slices.
-- Assumes nothing.
use Prim.Native.Nat.{ℕ, zero, suc, ◌≤◌, ◌<◌}
use native.Mathlib.Omega.{arith}
use mathlib.Core.Path.{◌≡◌, ◌∙◌, subst}
use mathlib.Core.Bool.{true, false}
use mathlib.Core.List.{List}
use mathlib.Core.Option.{some}
use lib.ListN.{length}
use lib.IntN.{ℤ, pos, negsuc}
use Rattle.book.specs.Good.{Lines}
use Rattle.network.specs.Standing.{standing}
use Rattle.network.specs.Tree.{tree}
use Rattle.fields.specs.Heights.{height}
use Rattle.sights.specs.Sights.{sights_of}
use Rattle.sweeps.specs.Sweeps.{Settled, settled, unsettled, settle}
use Rattle.sweeps.specs.Squares.{move_mark, squares}
use Rattle.start.specs.Start.{held_height, is_held, rooted_by, unheld_piece, start_of, start_heights}
use Rattle.adjust.specs.Adjusted.{done, refused, ended, unless_unheld, adjustment}
use Rattle.fields.proofs.Fair.{fair_lines}
use Rattle.sweeps.specs.Kept.{KeptTo}
use Rattle.sweeps.proofs.Best.{fairs_sound, Sound, settled_not_worse, settled_keeps_held, settled_best}
use Rattle.start.proofs.Beginning.{start_length, start_height}

-- an adjustment that is not refused is its settled sweeps
settled_sweeps : (s : Settled) (n : ℕ) (hs : List ℤ) → ended s ≡ done n hs → s ≡ settled n hs
settled_sweeps (settled k gs) n hs e = cc
settled_sweeps (Settled.outside m) n hs e = absurd (clash e)
  where
    clash : refused 13 m ≡ done n hs → ⊥
    clash e = let z : ◌≡◌ {A = ℕ} 0 1 = cc in omega arith
settled_sweeps unsettled n hs e = absurd (clash e)
  where
    clash : refused 12 0 ≡ done n hs → ⊥
    clash e = let z : ◌≡◌ {A = ℕ} 0 1 = cc in omega arith

done_sweeps : (m : ℕ) (s : Settled) (n : ℕ) (hs : List ℤ) → unless_unheld m (λ _. ended s) ≡ done n hs → s ≡ settled n hs
done_sweeps zero s n hs e = settled_sweeps s n hs e
done_sweeps (suc m) s n hs e = absurd (clash e)
  where
    clash : refused 11 (suc m) ≡ done n hs → ⊥
    clash e = let z : ◌≡◌ {A = ℕ} 0 1 = cc in omega arith

module _ (b n : ℕ) (held lines : List ℤ) (good : Lines lines b n) (sweeps : ℕ) (hs : List ℤ)
    (e : adjustment b held lines ≡ done sweeps hs) where
  sound : Sound b (standing lines)
  sound = fairs_sound (fair_lines lines b n good)

  its_sweeps : settle (sights_of (standing lines)) (is_held held) b (start_heights b held lines) ≡ settled sweeps hs
  unfolding adjustment
  its_sweeps =
      done_sweeps (unheld_piece (rooted_by (tree b (standing lines))) (held_height held) b)
      (settle (sights_of (standing lines)) (is_held held) b (start_heights b held lines)) sweeps hs e

  -- one height to each mark
  pub as_many : length hs ≡ b
  as_many =
      (subst (KeptTo (λ gs. (length gs ≡ b) × (squares (standing lines) gs ≤ squares (standing lines) (start_heights b held lines))))
      its_sweeps
      (settled_not_worse b (standing lines) sound (is_held held) (start_heights b held lines) (start_length b held lines))).0

  -- "the sum is no greater than at the start"
  pub never_worse : squares (standing lines) hs ≤ squares (standing lines) (start_heights b held lines)
  never_worse =
      (subst (KeptTo (λ gs. (length gs ≡ b) × (squares (standing lines) gs ≤ squares (standing lines) (start_heights b held lines))))
      its_sweeps
      (settled_not_worse b (standing lines) sound (is_held held) (start_heights b held lines) (start_length b held lines))).1

  -- "no free mark can be moved by one micrometre, either way, so that the weighted sum of squared residuals falls"
  pub best_at_every_mark : (m : ℕ) → 0 < m → m ≤ b → is_held held m ≡ false
      → (squares (standing lines) hs ≤ squares (standing lines) (move_mark hs m (pos 1)))
      × (squares (standing lines) hs ≤ squares (standing lines) (move_mark hs m (negsuc 0)))
  best_at_every_mark m l u free =
      settled_best b (standing lines) sound (is_held held) (start_heights b held lines) (start_length b held lines) sweeps hs its_sweeps m
      l u free

  held_is : (m : ℕ) (z : ℤ) → held_height held m ≡ some z → is_held held m ≡ true
  unfolding is_held
  held_is m z h = rw h

  start_own : (m : ℕ) (z : ℤ) → held_height held m ≡ some z → start_of (rooted_by (tree b (standing lines))) (held_height held) b m ≡ z
  unfolding start_of
  start_own m z h = rw h

  -- a held mark keeps its held height
  pub held_marks_keep : (m : ℕ) (z : ℤ) → 0 < m → m ≤ b → held_height held m ≡ some z → height hs m ≡ z
  held_marks_keep m z l u h =
      (subst (KeptTo (λ gs. (length gs ≡ b) × ((k : ℕ) → 0 < k → is_held held k ≡ true → height gs k
      ≡ height (start_heights b held lines) k))) its_sweeps
      (settled_keeps_held b (standing lines) sound (is_held held) (start_heights b held lines) (start_length b held lines))).1 m l
      (held_is m z h)
      ∙ start_height b held lines m l u ∙ start_own m z h
