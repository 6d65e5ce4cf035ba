-- The lines at a mark by its chain of halves: half 2 k is line k from its from to its to, half 2 k + 1 line k the other way.
-- Assumes nothing.
use Rattle.std.specs.Prelude.{ℕ, zero, suc, ◌-◌, ◌/◌, ◌%◌, ◌≤◌, ◌<◌, ◌≡◌, List, [], ◌∷◌, length, get_or, ℤ, nat_abs, neg_ℤ}
use Rattle.book.specs.Line.{from_at, to_at, difference_at, length_at}
use Rattle.chains.specs.Chains.{halves}
use Rattle.divisions.specs.Weight.{weight_of}
use Rattle.fields.specs.Places.{Place}
use Rattle.sights.specs.Sights.{Sight, sight}

-- the place in the book of the line of half h
abbrev pub place_of : ℕ → ℕ
place_of h = h / 2 - 1

abbrev pub side_of : ℕ → Sight → Sight → Sight
side_of zero along against = along
side_of (suc k) along against = against

-- half h as it is seen from the mark that it leaves
unfoldable pub sight_at : List ℤ → ℕ → Sight
unfolding weight_of
sight_at lines h =
    let i = place_of h in
    let weight = weight_of (nat_abs (length_at lines i)) in
    side_of (h % 2) (sight (nat_abs (to_at lines i)) (neg_ℤ (difference_at lines i)) weight)
    (sight (nat_abs (from_at lines i)) (difference_at lines i) weight)

-- h is a half of one of the n lines
pub record HalfHere (lines : List ℤ) (b n h : ℕ) : Type 0 where
  pub some_line : 2 ≤ h
  pub place : Place lines b n (place_of h)

-- the weight of each of the n lines, by its place
pub record WeightsOf (lines : List ℤ) (n : ℕ) (weights : List ℕ) : Type 0 where
  pub room : n ≤ length weights
  pub each : (i : ℕ) → i < n → get_or weights i 0 ≡ weight_of (nat_abs (length_at lines i))

-- the chain from the half h on, as it is seen from its mark
pub data Leads (lines : List ℤ) (n : ℕ) (next : List ℕ) : ℕ → List Sight → Type 0 where
  no_more : {h : ℕ} → h ≡ 0 → Leads lines n next h []
  one_more : {h : ℕ} {ss : List Sight} → 2 ≤ h → place_of h < n → h < halves → Leads lines n next (get_or next h 0) ss
      → Leads lines n next h (sight_at lines h ∷ ss)
