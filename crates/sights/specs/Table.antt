-- The lines at each mark, in arrays: those at mark m stand from place first[m - 1] up to place first[m] of `other`, `rise` and `weight`.
-- A mark is named there by its place among the heights, one less than its number.
-- Assumes nothing.
use Rattle.std.specs.Prelude.{ℕ, zero, suc, ◌+◌, ◌-◌, ◌≤◌, ◌<◌, ◌≡◌, List, [], ◌∷◌, ◌++◌, length, get_or, set, ℤ, pos, nat_abs}
use Rattle.book.specs.Limits.{most_difference, most_lines}
use Rattle.divisions.specs.Weight.{most_weight}
use Rattle.sights.specs.Sights.{Sight, sight, weights}

-- the three columns: a place has the place of the other mark, the rise from there and the weight
pub record Columns : Type 0 where
  pub other : List ℕ
  pub rise : List ℤ
  pub weight : List ℕ

abbrev pub columns : List ℕ → List ℤ → List ℕ → Columns
columns other rise weight = record { other = other; rise = rise; weight = weight }

-- k sights from place a on
unfoldable pub seen : Columns → ℕ → ℕ → List Sight
seen cols a zero = []
seen cols a (suc k) =
    sight (suc (get_or cols.other a 0)) (get_or cols.rise a (pos 0)) (get_or cols.weight a 0) ∷ seen cols (suc a) k

-- the sights of mark m
unfoldable pub rows : List ℕ → Columns → ℕ → List Sight
unfolding seen
rows first cols m = seen cols (get_or first (m - 1) 0) (get_or first m 0 - get_or first (m - 1) 0)

-- Marks, rises and weights in their ranges
pub record InRange (cols : Columns) (b : ℕ) : Type 0 where
  pub other_in : (j : ℕ) → get_or cols.other j 0 < b
  pub rise_in : (j : ℕ) → nat_abs (get_or cols.rise j (pos 0)) ≤ most_difference
  pub weight_in : (j : ℕ) → get_or cols.weight j 0 ≤ most_weight

-- Room up to place e
pub record RoomUpto (cols : Columns) (e : ℕ) : Type 0 where
  pub others : e ≤ length cols.other
  pub rises : e ≤ length cols.rise
  pub weighed : e ≤ length cols.weight

-- Sights up to place e, of b marks
pub record Ends (cols : Columns) (b e : ℕ) : Type 0 where
  pub room : RoomUpto cols e
  pub range : InRange cols b

-- At most 512 lines at a mark, from place a to place e
pub record Span (a e : ℕ) : Type 0 where
  pub order : a ≤ e
  pub few : e - a ≤ most_lines

-- The whole table of b marks; total[m - 1] is D of mark m
pub record Table (first : List ℕ) (cols : Columns) (total : List ℕ) (b : ℕ) : Type 0 where
  pub firsts : b < length first
  pub totals : b ≤ length total
  pub span : (v : ℕ) → v < b → Span (get_or first v 0) (get_or first (v + 1) 0)
  pub ends : (v : ℕ) → v < b → Ends cols b (get_or first (v + 1) 0)
  pub sum : (v : ℕ) → v < b → get_or total v 0 ≡ weights (rows first cols (suc v))

-- The sight s is written at place c
pub record Written (cols cols' : Columns) (c : ℕ) (s : Sight) : Type 0 where
  pub others : cols'.other ≡ set cols.other c (s.other - 1)
  pub rises : cols'.rise ≡ set cols.rise c s.rise
  pub weighed : cols'.weight ≡ set cols.weight c s.weight

-- The sights ss are written from place a on: what stands before is as it was, and all is in range
pub record Filled (cols cols' : Columns) (b a : ℕ) (ss : List Sight) : Type 0 where
  pub range : InRange cols' b
  pub here : seen cols' a (length ss) ≡ ss
  pub before : (i k : ℕ) → i + k ≤ a → seen cols' i k ≡ seen cols i k

-- the weights at k places from a on
unfoldable pub weighed : List ℕ → ℕ → ℕ → ℕ
weighed weight a zero = 0
weighed weight a (suc k) = get_or weight a 0 + weighed weight (suc a) k

-- While the sights `all` are written from place a on: place c is next, and `rest` is left
pub record Filling (cols₀ cols : Columns) (b a c : ℕ) (rest all : List Sight) : Type 0 where
  pub range : InRange cols b
  pub room : RoomUpto cols (c + length rest)
  pub reached : a ≤ c
  pub done : seen cols a (c - a) ++ rest ≡ all
  pub before : (i k : ℕ) → i + k ≤ a → seen cols i k ≡ seen cols₀ i k

-- the places that the sights of the marks 1 to v take
unfoldable pub taken : (ℕ → List Sight) → ℕ → ℕ
taken sights zero = 0
taken sights (suc v) = taken sights v + length (sights (suc v))

-- The rows of the marks below v are written, and place c is next
pub record Rowed (sights : ℕ → List Sight) (first : List ℕ) (cols : Columns) (total : List ℕ) (b v c : ℕ) : Type 0 where
  pub range : InRange cols b
  pub next : c ≡ taken sights v
  pub firsts : (u : ℕ) → u < v → get_or first u 0 ≡ taken sights u
  pub row_at : (u : ℕ) → u < v → seen cols (taken sights u) (length (sights (suc u))) ≡ sights (suc u)
  pub totals : (u : ℕ) → u < v → get_or total u 0 ≡ weights (sights (suc u))

-- Room for all rows
pub record RoomRows (sights : ℕ → List Sight) (first : List ℕ) (cols : Columns) (total : List ℕ) (b : ℕ) : Type 0 where
  pub firsts : b < length first
  pub totals : b ≤ length total
  pub upto : RoomUpto cols (taken sights b)
  pub few : (m : ℕ) → length (sights m) ≤ most_lines

-- Weights from place a to place e, few and small enough for their sum
pub record Weighable (weight : List ℕ) (a e : ℕ) : Type 0 where
  pub long : e ≤ length weight
  pub span : Span a e
  pub small : (j : ℕ) → get_or weight j 0 ≤ most_weight

-- Two tables agree on the marks 1 to b
abbrev pub Sighted : (ℕ → List Sight) → (ℕ → List Sight) → ℕ → Type 0
Sighted f g b = (v : ℕ) → v < b → f (suc v) ≡ g (suc v)
