-- What a walk is, and what the shortest of all walks is: plain statements, before any search.
-- Assumes nothing.
use Rattle.std.specs.Prelude.{ℕ, zero, ◌+◌, ◌≤◌, ◌<◌, ◌≡◌, Bool, true, false, not}
use mathlib.Core.List.{List, [], ◌∷◌, Memᴰ}
use Rattle.network.specs.Standing.{Line}
use Rattle.network.specs.Pairwise.{Pairwise}

-- u and v are the line's two ends, either way round
pub data Ends (l : Line) : ℕ → ℕ → Type 0 where
  along : {u v : ℕ} → l.from ≡ u → l.to ≡ v → Ends l u v
  against : {u v : ℕ} → l.to ≡ u → l.from ≡ v → Ends l u v

-- a line as it is run: forward from its from to its to, or back
pub record Pass : Type 0 where
  pub line : Line
  pub forward : Bool

abbrev pub pass : Line → Bool → Pass
pass l f = record { line = l; forward = f }

-- a pass run the other way
abbrev pub flip : Pass → Pass
flip p = pass p.line (not p.forward)

abbrev pub end : Bool → ℕ → ℕ → ℕ
end true a b = a
end false a b = b

-- where a pass starts and where it stops
abbrev pub start : Pass → ℕ
start p = end p.forward p.line.from p.line.to

abbrev pub stop : Pass → ℕ
stop p = end p.forward p.line.to p.line.from

-- the length of what is run: "the sum of the lengths as entered"
unfoldable pub way_length : List Pass → ℕ
way_length [] = zero
way_length (p ∷ ps) = p.line.length + way_length ps

-- w is a walk along the lines from mark u to mark r: each pass starts where the one before it stops
pub data Walk (lines : List Line) (r : ℕ) : ℕ → List Pass → Type 0 where
  here : {u : ℕ} → u ≡ r → Walk lines r u []
  step : {u : ℕ} {p : Pass} {ps : List Pass} → start p ≡ u → Memᴰ p.line lines → Walk lines r (stop p) ps → Walk lines r u (p ∷ ps)

-- "the one whose line numbers, read from the to end, are smaller at the first difference"; or there is no difference
pub data Before : List Pass → List Pass → Type 0 where
  equal : Before [] []
  lower : {p q : Pass} {ps qs : List Pass} → p.line.number < q.line.number → Before (p ∷ ps) (q ∷ qs)
  alike : {p q : Pass} {ps qs : List Pass} → p ≡ q → Before ps qs → Before (p ∷ ps) (q ∷ qs)

-- "the shortest path in the subgraph": p is a walk along the lines sub from mark u to mark r, no walk is shorter, and of those as short
-- it is the first by numbers
pub record IsShortest (sub : List Line) (r u : ℕ) (p : List Pass) : Type 0 where
  pub is_walk : Walk sub r u p
  pub least : {w : List Pass} → Walk sub r u w → way_length p ≤ way_length w
  pub first : {w : List Pass} → Walk sub r u w → way_length w ≡ way_length p → Before p w

-- no mark twice: the marks on the way w from mark u, u itself and where each pass stops, are all different
unfoldable pub marks_on : ℕ → List Pass → List ℕ
marks_on u [] = u ∷ []
marks_on u (p ∷ ps) = u ∷ marks_on (stop p) ps

abbrev pub AllDifferent : List ℕ → Type 0
AllDifferent ms = Pairwise (λ (m k : ℕ). m ≡ k → ⊥) ms

-- no line twice
abbrev pub OnlyOnce : List Pass → Type 0
OnlyOnce w = Pairwise (λ (p q : Pass). p.line.number ≡ q.line.number → ⊥) w
