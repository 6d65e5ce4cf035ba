-- The tree of all pieces, mark by mark. Assumes nothing.
use Rattle.std.specs.Prelude.{ℕ, ◌-◌, ◌≤◌, ◌<◌, ◌≡◌, List, [], ◌∷◌, length, get_or, set}
use Rattle.network.specs.Standing.{Line}
use Rattle.network.specs.Tree.{Entry, Tree, tree}
use Rattle.nearest.specs.Heap as hp
use Rattle.chains.specs.Chains.{Given}
use Rattle.search.specs.Front.{Keys, keys, RoomSearch, Relaxed, Turned, Keyed}

-- r is the first place from i on that holds `far`, or n
pub record FirstFar (best : List ℕ) (n i r : ℕ) : Type 0 where
  pub low : i ≤ r
  pub high : r ≤ n
  pub before : (j : ℕ) → i ≤ j → j < r → get_or best j 0 ≡ hp.far → ⊥
  pub at : r < n → get_or best r 0 ≡ hp.far

-- the tables of a tree as it grows
pub record Growing : Type 0 where
  pub known : Keys
  pub order : List ℕ

abbrev pub growing : List ℕ → List ℕ → List ℕ → Growing
growing best seg order = record { known = keys best seg; order = order }

-- the tables before and after: the mark that enters k-th stands at place k of order
pub data Sprouted (n : ℕ) (head next ends : List ℕ) (a z : Growing) (k root r : ℕ) : Type 0 where
  by_line_lem : (m : ℕ) → Turned n head next ends a.known z.known 0 m → (m ≡ 0 → ⊥) → r ≡ root → z.order ≡ set a.order k m
      → Sprouted n head next ends a z k root r
  by_root : (m : ℕ) (best₁ seg₁ : List ℕ) → Turned n head next ends a.known (keys best₁ seg₁) 0 m → m ≡ 0 → FirstFar best₁ n root r
      → r < n → Relaxed n next ends (keys (set best₁ r 0) seg₁) z.known (get_or head r 0) 0 → z.order ≡ set a.order k r
      → Sprouted n head next ends a z k root r
  ended : (m : ℕ) → Turned n head next ends a.known z.known 0 m → m ≡ 0 → FirstFar z.known.best n root r → r ≡ n
      → z.order ≡ a.order → Sprouted n head next ends a z k root r

-- order has the marks of the tree as they entered
pub data Entered (order : List ℕ) : Tree → Type 0 where
  none_yet : Entered order []
  enters : {e : Entry} {es : Tree} → get_or order (length es) 0 ≡ e.mark → Entered order es → Entered order (e ∷ es)

-- the arrays hold the tree: of each mark its distance and the line it came in by, and the order of entry
pub record Holding (es : Tree) (best order ends : List ℕ) : Type 0 where
  pub keyed : Keyed es best ends
  pub entered : Entered order es

-- it is the definition's
abbrev pub Planted : ℕ → List ℕ → List ℕ → List ℕ → List ℕ → List ℕ → Type 0
Planted n head next ends best order = (lines : List Line) → Given lines n head next ends → Holding (tree (n - 1) lines) best order ends

-- the first n places hold numbers below n
abbrev pub Below : ℕ → List ℕ → Type 0
Below n xs = (k : ℕ) → k < n → get_or xs k 0 < n

-- room for the order of entry of the marks below n
pub record RoomTree (n : ℕ) (best seg order : List ℕ) : Type 0 where
  pub room : RoomSearch n best seg
  pub some_mark : 0 < n
  pub orders : n ≤ length order
