-- Document 01, "Adjustment": "Start: in each piece the lowest held mark has its held height, the others follow along the tree; then
-- every held mark is set to its own."
-- Assumes nothing.
use Rattle.std.specs.Prelude.{ℕ, zero, suc, Bool, true, false, not, cond, List, [], ◌∷◌, eqb, ℤ, pos, nat_abs, ◌+ℤ◌, ◌-ℤ◌}
use Rattle.std.proofs.Math.Option.{Option, none, some}
use Rattle.laws.specs.Scan.{first_bad}
use Rattle.network.specs.Standing.{Line, standing}
use Rattle.network.specs.Tree.{Tree, tree}

-- "A held entry is two: mark, height." The held height of mark m, if it is held
unfoldable pub held_height : List ℤ → ℕ → Option ℤ
held_height [] m = none
held_height (k ∷ []) m = none
held_height (k ∷ z ∷ rest) m = cond (eqb (nat_abs k) m) (some z) (held_height rest m)

abbrev pub is_some : Option ℤ → Bool
is_some none = false
is_some (some z) = true

unfoldable pub is_held : List ℤ → ℕ → Bool
unfolding held_height
is_held held m = is_some (held_height held m)

-- A mark's place in the tree: the root of its piece, and how high the tree's lines put it over that root
pub record Rooted : Type 0 where
  pub root : ℕ
  pub over : ℤ

abbrev pub rooted : ℕ → ℤ → Rooted
rooted r o = record { root = r; over = o }

-- a line leads from a mark at r to one of its two ends
abbrev pub up : Rooted → ℤ → Rooted
up r d = rooted r.root (r.over +ℤ d)

abbrev pub down : Rooted → ℤ → Rooted
down r d = rooted r.root (r.over -ℤ d)

-- the mark m comes in by a line, from what the tree was before; a root stands over itself
abbrev pub enters : (ℕ → Rooted) → ℕ → Option Line → Rooted
enters before m none = rooted m (pos 0)
enters before m (some l) =
    elim (eqb l.to m) [ true ↦ up (before l.from) l.difference | false ↦ down (before l.to) l.difference ]

unfoldable pub rooted_by : Tree → ℕ → Rooted
rooted_by [] m = rooted m (pos 0)
rooted_by (e ∷ es) m = elim (eqb e.mark m) [ true ↦ enters (λ k. rooted_by es k) m e.by | false ↦ rooted_by es m ]

-- the lowest of the marks from m on, k of them, that is held in the piece of root r: the height that it gives that root
unfoldable pub root_height : (ℕ → Rooted) → (ℕ → Option ℤ) → ℕ → ℕ → ℕ → Option ℤ
root_height at held r m zero = none
root_height at held r m (suc k) = elim (held m) [
  | none ↦ root_height at held r (suc m) k
  | some z ↦ elim (eqb (at m).root r) [ true ↦ some (z -ℤ (at m).over) | false ↦ root_height at held r (suc m) k ]
]

-- how high the root of mark m stands, if a mark of its piece is held
abbrev pub root_of : (ℕ → Rooted) → (ℕ → Option ℤ) → ℕ → ℕ → Option ℤ
root_of at held b m = root_height at held (at m).root 1 b

-- "a piece has no held mark": "its lowest mark, lowest of all such"; 0 where each piece has one
unfoldable pub unheld_piece : (ℕ → Rooted) → (ℕ → Option ℤ) → ℕ → ℕ
unfolding root_height first_bad
unheld_piece at held b = first_bad (λ i. not (is_some (root_of at held b (suc i)))) b

-- along the tree
abbrev pub along : Rooted → Option ℤ → ℤ
along r none = r.over
along r (some z) = z +ℤ r.over

-- "then every held mark is set to its own"
abbrev pub own : Option ℤ → ℤ → ℤ
own none z = z
own (some y) z = y

unfoldable pub start_of : (ℕ → Rooted) → (ℕ → Option ℤ) → ℕ → ℕ → ℤ
unfolding root_height
start_of at held b m = own (held m) (along (at m) (root_of at held b m))

-- the heights of the marks m, m + 1, .., k of them
unfoldable pub heights_from : (ℕ → ℤ) → ℕ → ℕ → List ℤ
heights_from f m zero = []
heights_from f m (suc k) = f m ∷ heights_from f (suc m) k

unfoldable pub start : (ℕ → Rooted) → (ℕ → Option ℤ) → ℕ → List ℤ
unfolding start_of heights_from
start at held b = heights_from (λ m. start_of at held b m) 1 b

-- the heights before the first sweep
unfoldable pub start_heights : ℕ → List ℤ → List ℤ → List ℤ
unfolding start
start_heights b held lines = start (rooted_by (tree b (standing lines))) (held_height held) b
