-- Document 01, "Adjustment": what the lines at a mark say of its height.
-- Assumes nothing.
use Rattle.std.specs.Prelude.{ℕ, ◌+◌, Bool, true, false, List, [], ◌∷◌, eqb, ℤ, pos, neg_ℤ, ◌+ℤ◌, ◌-ℤ◌, ◌*ℤ◌}
use Rattle.network.specs.Standing.{Line}
use Rattle.divisions.specs.Weight.{weight_of}
use Rattle.fields.specs.Heights.{height}

-- A line as it is seen from one of its two marks: the mark at its other end, the rise from there to here, and its weight
pub record Sight : Type 0 where
  pub other : ℕ
  pub rise : ℤ
  pub weight : ℕ

abbrev pub sight : ℕ → ℤ → ℕ → Sight
sight o r w = record { other = o; rise = r; weight = w }

abbrev pub sight_if : Bool → Sight → List Sight → List Sight
sight_if true s rest = s ∷ rest
sight_if false s rest = rest

-- the lines at mark m, as they are seen from it, by rising number
unfoldable pub sights_of : List Line → ℕ → List Sight
unfolding weight_of
sights_of [] m = []
sights_of (l ∷ ls) m =
    sight_if (eqb l.to m) (sight l.from l.difference (weight_of l.length))
    (sight_if (eqb l.from m) (sight l.to (neg_ℤ l.difference) (weight_of l.length))
    (sights_of ls m))

-- "height given from the other end"
abbrev pub given : List ℤ → Sight → ℤ
given hs s = height hs s.other +ℤ s.rise

-- "D the sum of weights at a mark"
unfoldable pub weights : List Sight → ℕ
weights [] = 0
weights (s ∷ ss) = s.weight + weights ss

-- "g the sum over its lines of weight times (height given from the other end, minus present height)"; z is the present height
unfoldable pub pull : List ℤ → ℤ → List Sight → ℤ
pull hs z [] = pos 0
pull hs z (s ∷ ss) = pos s.weight *ℤ (given hs s -ℤ z) +ℤ pull hs z ss
