-- The numbers of an adjustment fit an int64: a place is a mark, and there are at most 10,000 sweeps.
-- Assumes nothing.
use Prim.Native.Nat.{ℕ, zero, suc, ◌+◌, ◌≤◌}
use native.Mathlib.Omega.{arith}
use mathlib.Core.Bool.{Bool, true, false}
use mathlib.Core.List.{List}
use lib.Dec.{ltb}
use lib.IntN.{ℤ, pos, ◌+ℤ◌}
use lib.ListN.{length}
use Rattle.laws.specs.Tests.{eq_z}
use Rattle.laws.proofs.Tests.{cond_ind}
use Rattle.laws.proofs.Scans.{first_most}
use Rattle.book.specs.Limits.{most_lines, most_marks}
use Rattle.book.specs.Height.{work_height_out}
use Rattle.book.specs.Lent.{Lent}
use Rattle.book.specs.Test.{refusal, test_of}
use Rattle.book.proofs.IfGood.{either_way}
use Rattle.book.proofs.Goods.{tested_good, tested_numbered}
use Rattle.fields.specs.Heights.{height}
use Rattle.sights.specs.Sights.{Sight, sights_of}
use Rattle.sweeps.specs.Sweeps.{move_of, Swept, still, moved, outside, placed, visited, has_moved, visit, sweep, Settled, settled}
use Rattle.sweeps.specs.Sweeps.{unsettled, onward, settle_from, settle}
use Rattle.network.specs.Standing.{standing}
use Rattle.network.specs.Tree.{tree}
use Rattle.start.specs.Start.{held_height, is_held, rooted_by, unheld_piece, start_heights}
use Rattle.adjust.specs.Adjusted.{Outcome, done, refused, ended, unless_unheld, adjustment}
use Rattle.adjust.specs.Call.{Given, given_by, adjust_good, adjust_of}
use Rattle.level.specs.Heights.{SmallAdjusted}

-- ---- a sweep

-- the mark whose height went outside is one of b
abbrev Near : ℕ → Swept → Type 0
Near b (still hs) = Unit {0}
Near b (moved hs) = Unit {0}
Near b (outside m) = m ≤ b

placed_near : (b : ℕ) (out stays : Bool) (m : ℕ) (z : ℤ) (hs : List ℤ) → m ≤ b → Near b (placed out stays m z hs)
placed_near b true stays m z hs h = h
placed_near b false true m z hs h = tt
placed_near b false false m z hs h = tt

visited_near : (b : ℕ) (ss : List Sight) (hs : List ℤ) (m : ℕ) → m ≤ b → Near b (visited ss hs m)
unfolding visited
visited_near b ss hs m h =
    let d = move_of ss hs m in
    let z = height hs m +ℤ d in
    placed_near b (work_height_out z) (eq_z d (pos 0)) m z hs h

moved_near : (b : ℕ) (s : Swept) → Near b s → Near b (has_moved s)
moved_near b (still hs) h = tt
moved_near b (moved hs) h = tt
moved_near b (outside m) h = h

visit_near : (b : ℕ) (held : Bool) (ss : List Sight) (m : ℕ) (s : Swept) → m ≤ b → Near b s → Near b (visit held ss m s)
visit_near b true ss m s h n = n
visit_near b false ss m (still hs) h n = visited_near b ss hs m h
visit_near b false ss m (moved hs) h n = moved_near b (visited ss hs m) (visited_near b ss hs m h)
visit_near b false ss m (outside k) h n = n

-- so many sweeps at most, or a mark of the b
abbrev Few : ℕ → Settled → Type 0
Few b (settled n hs) = n ≤ 10000
Few b (Settled.outside m) = m ≤ b
Few b unsettled = Unit {0}

module _ (sights : ℕ → List Sight) (is_held : ℕ → Bool) (b : ℕ) where
  sweep_near : (hs : List ℤ) (k : ℕ) → k ≤ b → Near b (sweep sights is_held hs k)
  unfolding sweep
  sweep_near hs zero h = tt
  sweep_near hs (suc k) h =
      visit_near b (is_held (suc k)) (sights (suc k)) (suc k) (sweep sights is_held hs k) h (sweep_near hs k (omega arith))

  settled_few : (k n : ℕ) (hs : List ℤ) → n + k ≤ 10000 → Few b (settle_from sights is_held b k n hs)
  unfolding settle_from
  settled_few zero n hs h = tt
  settled_few (suc k) n hs h = go (sweep sights is_held hs b) (sweep_near hs b (omega arith)) (λ gs. settled_few k (suc n) gs (omega arith))
    where
      go : (s : Swept) → Near b s → ((gs : List ℤ) → Few b (settle_from sights is_held b k (suc n) gs))
          → Few b (onward s n (λ gs. settle_from sights is_held b k (suc n) gs))
      go (still gs) near more = omega arith
      go (moved gs) near more = more gs
      go (outside m) near more = near

-- ---- the whole

abbrev SmallOutcome : ℕ → Outcome → Type 0
SmallOutcome b (done n hs) = n ≤ 10000
SmallOutcome b (refused number place) = (number ≤ 13) × (place ≤ b)

ends : (b : ℕ) (s : Settled) → Few b s → SmallOutcome b (ended s)
ends b (settled n hs) h = h
ends b (Settled.outside m) h = (omega arith, h)
ends b unsettled h = (omega arith, omega arith)

unless_small : (b u : ℕ) (go : Unit {0} → Outcome) → u ≤ b → SmallOutcome b (go tt) → SmallOutcome b (unless_unheld u go)
unless_small b zero go h o = o
unless_small b (suc m) go h o = (omega arith, h)

unheld_few : (b : ℕ) (held lines : List ℤ) → unheld_piece (rooted_by (tree b (standing lines))) (held_height held) b ≤ b
unfolding unheld_piece
unheld_few b held lines = first_most _ b

outcome_small : (b : ℕ) (held lines : List ℤ) → SmallOutcome b (adjustment b held lines)
unfolding adjustment settle
outcome_small b held lines =
    unless_small b (unheld_piece (rooted_by (tree b (standing lines))) (held_height held) b) _ (unheld_few b held lines)
    (ends b (settle (sights_of (standing lines)) (is_held held) b (start_heights b held lines))
    (settled_few (sights_of (standing lines)) (is_held held) b 10000 0 (start_heights b held lines) (omega arith)))

answer_small : (number place sweeps : ℕ) → number ≤ 13 → place ≤ most_lines → sweeps ≤ 10000
    → SmallAdjusted (record { refusal = refusal number place; sweeps = sweeps })
answer_small number place sweeps n p s = record { refusal = record { number = omega arith; place = omega arith }; sweeps = omega arith }

given_small : (b : ℕ) (out : List ℤ) (o : Outcome) → b ≤ most_marks → SmallOutcome b o → SmallAdjusted (given_by out o).answer
given_small b out (done n hs) few h = answer_small 0 0 n (omega arith) (omega arith) h
given_small b out (refused number place) few h = answer_small number place 0 h.0 (omega (arith, h.1)) (omega arith)

pub adjust_small : (book : Lent) (heights : List ℤ) → SmallAdjusted (adjust_of book heights).answer
unfolding adjust_of adjust_good
adjust_small book heights =
    either_way (test_of book) _ _ (λ (o : Given). SmallAdjusted o.answer)
    (λ r e. let n = tested_numbered book r e in answer_small r.number r.place 0 (omega (arith, n.high)) n.near (omega arith))
    (λ k e.
    cond_ind (λ (o : Given). SmallAdjusted o.answer) (ltb (length heights) k.marks) _ _
    (λ _. answer_small 10 0 0 (omega arith) (omega arith) (omega arith))
    (λ _. given_small k.marks heights (adjustment k.marks book.held book.lines) (tested_good book k e).few_marks
    (outcome_small k.marks book.held book.lines)))
