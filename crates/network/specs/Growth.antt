-- How the tree grows, as plain statements: which candidate enters next, which mark is the next root, and how often a mark enters.
-- Assumes nothing.
use Rattle.std.specs.Prelude.{ℕ, zero, suc, ◌+◌, ◌≤◌, ◌<◌, ◌≡◌, ◌⊎◌, Bool, true, false, eqb}
use mathlib.Core.List.{List, [], ◌∷◌, Memᴰ}
use Rattle.std.proofs.Math.Option.{none, some}
use Rattle.network.specs.Standing.{Line}
use Rattle.network.specs.Walk.{Ends}
use Rattle.network.specs.Tree.{Entry, entry, Tree, Candidate, distance, score, far}

-- "The candidate with the lowest score, then the lowest number, enters": every candidate has a higher score, or the same and no lower
-- number
pub record EntersNext (es : Tree) (lines : List Line) (c : Candidate) : Type 0 where
  pub is_line : Memᴰ c.line lines
  pub its_score : score es c.line ≡ some c.score
  pub lowest : (l : Line) (s : ℕ) → Memᴰ l lines → score es l ≡ some s
      → (c.score < s) ⊎ ((c.score ≡ s) × (c.line.number ≤ l.number))

-- the piece is done: no line has just one end in the tree
abbrev pub PieceDone : Tree → List Line → Type 0
PieceDone es lines = (l : Line) → Memᴰ l lines → score es l ≡ none

-- "Pieces go in order of their lowest mark, which is the root": of the marks 1 to b that are not in the tree, m is the lowest
pub record NextRoot (b : ℕ) (es : Tree) (m : ℕ) : Type 0 where
  pub low : 0 < m
  pub high : m ≤ b
  pub is_out : distance es m ≡ none
  pub lowest : (k : ℕ) → 0 < k → k < m → distance es k ≡ none → ⊥

-- the tree grows by one entry after the other: the candidate that enters next, "its far mark takes the score as distance"; or, where the
-- piece is done, the next root, "at distance 0"
pub data Growth (b : ℕ) (lines : List Line) : Tree → Type 0 where
  nothing : Growth b lines []
  enters : {es : Tree} {c : Candidate} → Growth b lines es → EntersNext es lines c
      → Growth b lines (entry (far es c.line) c.score (some c.line) ∷ es)
  next_root : {es : Tree} {m : ℕ} → Growth b lines es → PieceDone es lines → NextRoot b es m → Growth b lines (entry m 0 none ∷ es)

-- "the distance falls at each step": the line l, by which e entered, leads from its mark to a mark of the tree that is nearer by just its
-- length
pub record LeadsNearer (es : Tree) (e : Entry) (l : Line) : Type 0 where
  pub nearer : ℕ
  pub its_distance : ℕ
  pub ends : Ends l nearer e.mark
  pub is_in : distance es nearer ≡ some its_distance
  pub sum : e.dist ≡ its_distance + l.length

abbrev pub one_more : Bool → ℕ → ℕ
one_more true n = suc n
one_more false n = n

-- how often mark m entered
unfoldable pub times_entered : ℕ → Tree → ℕ
times_entered m [] = zero
times_entered m (e ∷ es) = one_more (eqb e.mark m) (times_entered m es)
