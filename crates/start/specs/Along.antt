-- The start in arrays. The tree comes as it was planted: order[k] is the k-th mark that enters, and best has of each mark the line by which
-- it came in.
-- Assumes nothing.
use Rattle.std.specs.Prelude.{ℕ, zero, suc, ◌+◌, ◌*◌, ◌-◌, ◌≤◌, ◌<◌, ◌≡◌, Bool, true, false, not, cond, List, [], ◌∷◌, eqb, length, get_or}
use Rattle.std.specs.Prelude.{drop, ℤ, pos, nat_abs, ◌+ℤ◌}
use Rattle.std.proofs.Math.Option.{Option, none, some}
use Rattle.book.specs.Limits.{most_difference, most_marks, most_held_height}
use Rattle.book.specs.Good.{GoodHeld}
use Rattle.book.specs.Line.{from_at, to_at, difference_at}
use Rattle.network.specs.Standing.{Line}
use Rattle.network.specs.Tree.{Entry, Tree}
use Rattle.chains.specs.Chains.{line_in}
use Rattle.start.specs.Start.{held_height, root_height, unheld_piece, start_of, Rooted, rooted, up, down}

-- They hold the tree
pub data Entered (order best : List ℕ) : Tree → Type 0 where
  none_yet : Entered order best []
  by_root : {e : Entry} {es : Tree} → get_or order (length es) 0 ≡ e.mark → e.by ≡ none → line_in best (get_or order (length es) 0) ≡ 0
      → Entered order best es → Entered order best (e ∷ es)
  by_line_lem : {e : Entry} {es : Tree} → get_or order (length es) 0 ≡ e.mark → (l : Line) → e.by ≡ some l
      → line_in best (get_or order (length es) 0) ≡ l.number → Entered order best es → Entered order best (e ∷ es)

-- b marks, each 1 to b, that come in by some of n lines
pub record Growth (order best : List ℕ) (b n : ℕ) : Type 0 where
  pub orders : b ≤ length order
  pub bests : b < length best
  pub marks : (k : ℕ) → k < b → (0 < get_or order k 0) × (get_or order k 0 ≤ b)
  pub lines : (k : ℕ) → k < b → line_in best (get_or order k 0) ≤ n

abbrev pub side_of : Bool → Rooted → Rooted → Rooted
side_of true a b = a
side_of false a b = b

-- the mark m comes in by the line of number j, from what the tree was before
abbrev pub came_in : (ℕ → Rooted) → List ℤ → ℕ → ℕ → Rooted
came_in before lines m zero = rooted m (pos 0)
came_in before lines m (suc i) =
    side_of (eqb (nat_abs (to_at lines i)) m) (up (before (nat_abs (from_at lines i))) (difference_at lines i))
    (down (before (nat_abs (to_at lines i))) (difference_at lines i))

-- the places of the marks after k have entered
unfoldable pub rooting : List ℤ → List ℕ → List ℕ → ℕ → ℕ → Rooted
rooting lines order best zero m = rooted m (pos 0)
rooting lines order best (suc k) m =
    side_of (eqb (get_or order k 0) m) (came_in (rooting lines order best k) lines m (line_in best (get_or order k 0)))
    (rooting lines order best k m)

-- An array of flags and one of heights are a height or none at each place
abbrev pub optional : Bool → ℤ → Option ℤ
optional true z = some z
optional false z = none

pub record Given (given : ℕ → Option ℤ) (flags : List Bool) (heights : List ℤ) (b m : ℕ) : Type 0 where
  pub flagged : length flags ≡ b
  pub heighted : length heights ≡ b
  pub is : (v : ℕ) → v < b → optional (get_or flags v false) (get_or heights v (pos 0)) ≡ given (suc v)
  pub size : (v : ℕ) → nat_abs (get_or heights v (pos 0)) ≤ m

-- what the arrays say of mark m
abbrev pub spots : List ℕ → List ℤ → ℕ → Rooted
spots root over m = rooted (get_or root (m - 1) 0) (get_or over (m - 1) (pos 0))

-- Arrays of the places of b marks, roots 1 to b, and no mark more than k lines over its root
pub record Spotted (root : List ℕ) (over : List ℤ) (b k : ℕ) : Type 0 where
  pub roots : length root ≡ b
  pub overs : length over ≡ b
  pub marks : (v : ℕ) → v < b → (0 < get_or root v 0) × (get_or root v 0 ≤ b)
  pub size : (v : ℕ) → nat_abs (get_or over v (pos 0)) ≤ k * most_difference

-- One place, in range
pub record Spot (at : Rooted) (b k : ℕ) (root : ℕ) (over : ℤ) : Type 0 where
  pub is : rooted root over ≡ at
  pub mark : (0 < root) × (root ≤ b)
  pub size : nat_abs over ≤ k * most_difference

-- The arrays hold the places `at`
pub record Placing (at : ℕ → Rooted) (root : List ℕ) (over : List ℤ) (b k : ℕ) : Type 0 where
  pub spotted : Spotted root over b k
  pub place : (v : ℕ) → v < b → rooted (get_or root v 0) (get_or over v (pos 0)) ≡ at (suc v)

-- the held heights by the entries from place i on
abbrev pub held_from : List ℤ → ℕ → ℕ → Option ℤ
held_from held i = held_height (drop (2 * i) held)

-- The held entry at place i
pub record HeldPlace (held : List ℤ) (b i : ℕ) : Type 0 where
  pub whole : i * 2 + 2 ≤ length held
  pub good : GoodHeld b held i

-- the heights of the roots by the held marks from place v on
abbrev pub roots_from : (ℕ → Rooted) → (ℕ → Option ℤ) → ℕ → ℕ → ℕ → Option ℤ
roots_from at held b v r = root_height at held r (suc v) (b - v)

-- no root is higher, either way, than a held mark and a tree of the most marks can put it
abbrev pub most_root : ℕ
most_root = most_held_height + most_marks * most_difference

-- what the arrays say of the held height of mark m
abbrev pub gives : List Bool → List ℤ → ℕ → Option ℤ
gives flags own m = optional (get_or flags (m - 1) false) (get_or own (m - 1) (pos 0))

-- The held marks of b marks and their heights, in arrays
pub record HeldIn (flags : List Bool) (own : List ℤ) (b : ℕ) : Type 0 where
  pub few : b ≤ most_marks
  pub flagged : length flags ≡ b
  pub owned : length own ≡ b
  pub small : (v : ℕ) → nat_abs (get_or own v (pos 0)) ≤ most_held_height

-- What is known of b marks: the held ones and their heights, and the places of all in the tree
pub record Known (flags : List Bool) (own : List ℤ) (root : List ℕ) (over : List ℤ) (b : ℕ) : Type 0 where
  pub held : HeldIn flags own b
  pub spotted : Spotted root over b b

-- the height at the start of the mark at place v, by the arrays: a held mark has its own
unfoldable pub start_at : List Bool → List ℤ → List ℕ → List ℤ → List ℤ → ℕ → ℤ
start_at flags own root over base v =
    cond (get_or flags v false) (get_or own v (pos 0)) (get_or base (get_or root v 0 - 1) (pos 0) +ℤ get_or over v (pos 0))

-- whether the root of the mark at place v has no height
abbrev pub unheld : List ℕ → List Bool → ℕ → Bool
unheld root has v = not (get_or has (get_or root v 0 - 1) false)

-- The heights of b marks
pub record Begun (at : ℕ → ℤ) (hs : List ℤ) (b : ℕ) : Type 0 where
  pub all : length hs ≡ b
  pub each : (v : ℕ) → v < b → get_or hs v (pos 0) ≡ at v

-- Every mark is its own root
pub record Seeded (root : List ℕ) (v : ℕ) : Type 0 where
  pub each : (u : ℕ) → u < v → get_or root u 0 ≡ suc u

-- Roots 1 to b
pub record Rooting (root : List ℕ) (b : ℕ) : Type 0 where
  pub all : length root ≡ b
  pub marks : (v : ℕ) → v < b → (0 < get_or root v 0) × (get_or root v 0 ≤ b)

-- Heights of roots in their range
pub record Based (base : List ℤ) (b : ℕ) : Type 0 where
  pub all : length base ≡ b
  pub size : (v : ℕ) → nat_abs (get_or base v (pos 0)) ≤ most_root

-- Arrays of b zeros, before anything is known
pub record Blank (flags : List Bool) (heights : List ℤ) (b : ℕ) : Type 0 where
  pub flagged : length flags ≡ b
  pub heighted : length heights ≡ b
  pub none : (v : ℕ) → get_or flags v false ≡ false
  pub zero : (v : ℕ) → get_or heights v (pos 0) ≡ pos 0

pub record Bare (root : List ℕ) (over : List ℤ) (b : ℕ) : Type 0 where
  pub roots : length root ≡ b
  pub overs : length over ≡ b
  pub zero : (v : ℕ) → get_or over v (pos 0) ≡ pos 0

-- r is the lowest mark of a piece without a held mark, or 0, and then z has the heights at the start, by the places `at`
abbrev pub Started : (ℕ → Rooted) → List Bool → List ℤ → List ℤ → ℕ → ℕ → Type 0
Started at flags own z b r = (held : ℕ → Option ℤ) → Given held flags own b most_held_height
    → (r ≡ unheld_piece at held b) × (r ≡ 0 → (v : ℕ) → v < b → get_or z v (pos 0) ≡ start_of at held b (suc v)) × (length z ≡ b)

-- the same, whatever places the arrays hold
abbrev pub Raised : List Bool → List ℤ → List ℕ → List ℤ → List ℤ → ℕ → ℕ → Type 0
Raised flags own root over z b r = (at : ℕ → Rooted) → Placing at root over b b → Started at flags own z b r
