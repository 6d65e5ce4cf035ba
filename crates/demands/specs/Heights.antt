-- The adjustment and the correction rate: their tables of refusals, and what they give when done.
-- Assumes nothing.
use Rattle.std.specs.Prelude.{Bool, true, false, ◌≡◌, ℕ, ◌-◌, ◌≤◌, ◌<◌, T, ltb, length, take, drop, ℤ, pos, nat_abs, ◌+ℤ◌}
use mathlib.Core.List.{List, [], ◌∷◌, ◌++◌, Memᴰ}
use Rattle.std.proofs.Math.Option.{none, some}
use Rattle.std.specs.Float.{binary64}
use Rattle.std.specs.Float.Ieee.{in_signed, to_signed, of_int}
use Rattle.laws.specs.Tests.{out_z}
use Rattle.book.specs.Lent.{Lent}
use Rattle.book.specs.Line.{line_count}
use Rattle.network.specs.Standing.{Line, standing}
use Rattle.network.specs.Walk.{Pass, Walk}
use Rattle.network.specs.Piece.{LowestOfPiece}
use Rattle.network.specs.Tree.{tree, tree_lines}
use Rattle.fields.specs.Heights.{height}
use Rattle.sights.specs.Sights.{sights_of}
use Rattle.sweeps.specs.Sweeps.{Settled, settled, unsettled, settle}
use Rattle.start.specs.Start.{held_height, is_held, rooted_by, unheld_piece, start_heights}
use Rattle.rates.specs.Rates as rates
use Rattle.rates.specs.Rates.{line_rate, first_high, heights_out}
use Rattle.rates.specs.Rates.{RateAnswer}
use Rattle.adjust.specs.Answers.{settled_at}
use Rattle.adjust.specs.Answers as adjust
use Rattle.adjust.specs.Call.{Given, adjusted}
use Rattle.demands.specs.Rules.{Rule, rule, KeepsToTable}
use Rattle.demands.specs.Tables.{book_fault, beside_rules, book_rules}

-- ---- the adjustment

-- the sweeps over a book of b marks, from its start on
unfoldable pub sweeps_of : ℕ → List ℤ → List ℤ → Settled
unfolding settle start_heights
sweeps_of b held lines = settle (sights_of (standing lines)) (is_held held) b (start_heights b held lines)

-- 11: the lowest mark of a piece without a held mark, or 0
unfoldable pub unheld_mark : ℕ → List ℤ → List ℤ → ℕ
unfolding unheld_piece
unheld_mark b held lines = unheld_piece (rooted_by (tree b (standing lines))) (held_height held) b

-- 12: "the 10,000th sweep still moved a mark"
abbrev pub still_moves : Settled → Bool
still_moves (settled n hs) = false
still_moves (Settled.outside m) = false
still_moves unsettled = true

-- 13: "a height in work .. outside its limit", "the mark"
abbrev pub went_outside : Settled → Bool
went_outside (settled n hs) = false
went_outside (Settled.outside m) = true
went_outside unsettled = false

abbrev pub outside_mark : Settled → ℕ
outside_mark (settled n hs) = 0
outside_mark (Settled.outside m) = m
outside_mark unsettled = 0

-- how many sweeps, and the heights that they settle at
abbrev pub count_of : Settled → ℕ
count_of (settled n hs) = n
count_of (Settled.outside m) = 0
count_of unsettled = 0

abbrev pub heights_of : Settled → List ℤ
heights_of (settled n hs) = hs
heights_of (Settled.outside m) = []
heights_of unsettled = []

-- 10, 11, then 12 or 13: the sweeps end in one way, and so "by whichever comes first"
abbrev pub sweep_rules : Lent → List ℤ → List Rule
sweep_rules book out =
    let unheld = unheld_mark (nat_abs book.b) book.held book.lines in
    let sweeps = sweeps_of (nat_abs book.b) book.held book.lines in
    rule 10 (ltb (length out) (nat_abs book.b)) 0
    ∷ rule 11 (ltb 0 unheld) unheld
    ∷ rule 12 (still_moves sweeps) 0
    ∷ rule 13 (went_outside sweeps) (outside_mark sweeps) ∷ []

unfoldable pub adjust_rules : Lent → List ℤ → List Rule
unfolding sweeps_of unheld_mark
adjust_rules book out = book_rules book (sweep_rules book out)

-- the settled heights in the first places of the output
abbrev pub adjust_done : Settled → List ℤ → Given
adjust_done s out = adjusted (settled_at (count_of s)) (heights_of s ++ drop (length (heights_of s)) out)

abbrev pub AdjustmentKeepsToTable : Lent → List ℤ → Given → Type 0
AdjustmentKeepsToTable book out given =
    KeepsToTable (λ (g : Given). g.answer.refusal) (adjust_rules book out)
    (λ r. adjusted (adjust.refused_with r) out) (adjust_done (sweeps_of (nat_abs book.b) book.held book.lines) out) given

-- the heights of the marks, as an adjustment left them
abbrev pub marks_heights : Lent → Given → List ℤ
marks_heights book given = take (nat_abs book.b) given.heights

-- ---- the correction rate

-- 8: "no such line"; 13: "a height .. lent, outside its limit", "of lent ones the lowest"
abbrev pub height_rules : Lent → List ℤ → ℤ → List Rule
height_rules book heights line =
    rule 8 (out_z (pos 1) (pos (line_count book.lines)) line) 0 ∷ rule 13 (ltb 0 (first_high heights)) (first_high heights) ∷ []

-- 4 is also "heights lent to be read not b in number"
unfoldable pub rate_rules : Lent → List ℤ → ℤ → List Rule
unfolding heights_out book_fault out_z first_high
rate_rules book heights line = beside_rules (heights_out book heights) book (height_rules book heights line)

-- "exact as 64-bit floats": cast to a float and back, z is z again
abbrev pub ExactFloat : ℤ → Type 0
ExactFloat z = T (in_signed binary64 63 (of_int binary64 z)) × (to_signed 63 (of_int binary64 z) ≡ z)

-- the answer of a line
abbrev pub rate_done : Lent → List ℤ → ℤ → RateAnswer
rate_done book heights line = line_rate heights book.lines (nat_abs line) (nat_abs line - 1)

abbrev pub RateKeepsToTable : Lent → List ℤ → ℤ → RateAnswer → Type 0
RateKeepsToTable book heights line given =
    KeepsToTable (λ (r : RateAnswer). r.refusal) (rate_rules book heights line) rates.refused_with (rate_done book heights line) given

-- ---- pieces and the start

-- a walk along the standing lines joins the two marks
abbrev pub Joined : List ℤ → ℕ → ℕ → Type 0
Joined lines a c = (w : List Pass) × Walk (standing lines) a c w

-- the piece of mark m has a held mark
abbrev pub PieceHeld : ℕ → List ℤ → List ℤ → ℕ → Type 0
PieceHeld b held lines m = (k : ℕ) × (0 < k) × (k ≤ b) × (is_held held k ≡ true) × Joined lines k m

-- 11 at mark m: "a piece has no held mark", "its lowest mark, lowest of all such"
pub record UnheldAt (b : ℕ) (held lines : List ℤ) (m : ℕ) : Type 0 where
  pub a_mark : (0 < m) × (m ≤ b)
  pub none_held : PieceHeld b held lines m → ⊥
  pub lowest_of_piece : LowestOfPiece (standing lines) m
  pub lowest_of_all : (k : ℕ) → 0 < k → k < m → PieceHeld b held lines k

-- "Start: in each piece the lowest held mark has its held height, the others follow along the tree; then every held mark is set to its
-- own."
pub record StartIs (b : ℕ) (held lines : List ℤ) : Type 0 where
  pub followed : ℕ → ℤ
  pub lowest_held_has_its_own : (k : ℕ) (z : ℤ) → 0 < k → k ≤ b → held_height held k ≡ some z
      → ((j : ℕ) → 0 < j → j < k → Joined lines j k → held_height held j ≡ none) → followed k ≡ z
  pub others_follow_the_tree : (l : Line) → Memᴰ l (tree_lines (tree b (standing lines)))
      → followed l.to ≡ followed l.from +ℤ l.difference
  pub one_to_each_mark : length (start_heights b held lines) ≡ b
  pub held_set_to_its_own : (m : ℕ) (z : ℤ) → 0 < m → m ≤ b → held_height held m ≡ some z → height (start_heights b held lines) m ≡ z
  pub free_stays : (m : ℕ) → 0 < m → m ≤ b → held_height held m ≡ none → height (start_heights b held lines) m ≡ followed m
