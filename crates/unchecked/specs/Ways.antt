-- Lines are marked as checked along the ways of the tree. Document 01: "A mark's way to its root is followed line by line".
-- Assumes nothing.
use Rattle.std.specs.Prelude.{ℕ, ◌+◌, ◌*◌, ◌-◌, ◌/◌, ◌%◌, ◌≤◌, ◌<◌, ◌≡◌, Bool, true, false, not, ◌||◌, cond, length, get_or, set, eqb}
use mathlib.Core.List.{List, Memᴰ}
use Rattle.book.specs.Limits.{most_marks}
use Rattle.network.specs.Standing.{Line}
use Rattle.network.specs.Sound.{Rising}
use Rattle.network.specs.Tree.{tree}
use Rattle.network.specs.Closing.{closing}
use Rattle.loops.specs.Crossed.{on_way, differ, crosses, crossed}
use Rattle.chains.specs.Chains.{flip, mark_of, AllSound, Bounded, Told, halves, number_limit}
use Rattle.chains.specs.Listed.{Listed}
use Rattle.search.specs.Front.{Keyed}
use Rattle.tree.specs.Plant.{Holding}

-- what stands at the number of a line that is checked
abbrev pub checked_mark : ℕ
checked_mark = 1

-- line j is marked
abbrev pub is_marked : List ℕ → ℕ → Bool
is_marked marked j = eqb (get_or marked j 0) checked_mark

-- ---- the tree as it lies in the arrays

-- m is a mark of a book whose marks are below n
abbrev pub IsMark : ℕ → ℕ → Type 0
IsMark n m = (0 < m) × (m < n)

-- ends tells of the lines, best of each mark its distance and the line it came in by
pub record TreeHeld (n : ℕ) (lines : List Line) (ends best : List ℕ) : Type 0 where
  pub rising : Rising lines
  pub sound : AllSound n lines
  pub few : n ≤ halves
  pub told : Told lines ends
  pub keyed : Keyed (tree (n - 1) lines) best ends

-- more than any mark: best has so many places
abbrev pub mark_limit : ℕ
mark_limit = most_marks + 1

-- ---- one line of a way

-- the number of the line by which mark m came in, and the mark at its other end
abbrev pub line_in : List ℕ → ℕ → ℕ
line_in best m = get_or best m 0 % halves / 2

abbrev pub nearer_mark : List ℕ → List ℕ → ℕ → ℕ
nearer_mark ends best m = mark_of ends (flip (get_or best m 0 % halves))

pub record Climbed (ends best marked marked' : List ℕ) (m r : ℕ) : Type 0 where
  pub marks : marked' ≡ set marked (line_in best m) checked_mark
  pub nearer : r ≡ nearer_mark ends best m

-- ---- two ways, to where they meet

-- there is a tree, and u and v are marks of it
pub record Follows (ends best marked : List ℕ) (u v : ℕ) : Type 0 where
  pub marks : number_limit ≤ length marked
  pub n : ℕ
  pub bests : n ≤ mark_limit
  pub lines : List Line
  pub held : TreeHeld n lines ends best
  pub u_is : IsMark n u
  pub v_is : IsMark n v

-- marked are the lines that were, and those on one of the two ways and not on the other
abbrev pub Followed : List ℕ → List ℕ → List ℕ → List ℕ → ℕ → ℕ → Type 0
Followed ends best marked marked' u v =
    (n : ℕ) (lines : List Line) → TreeHeld n lines ends best → IsMark n u → IsMark n v
    → (j : ℕ) → is_marked marked' j ≡ (is_marked marked j || differ (on_way (tree (n - 1) lines) j u) (on_way (tree (n - 1) lines) j v))

-- ---- one closing line

-- there is a tree, and a line of this number
pub record Checks (ends best marked : List ℕ) (number : ℕ) : Type 0 where
  pub marks : number_limit ≤ length marked
  pub n : ℕ
  pub bests : n ≤ mark_limit
  pub lines : List Line
  pub held : TreeHeld n lines ends best
  pub c : Line
  pub is_line : Memᴰ c lines
  pub its : c.number ≡ number

-- marked are the lines that were, the line c, and those that it crosses
abbrev pub LoopChecked : List ℕ → List ℕ → List ℕ → List ℕ → ℕ → Type 0
LoopChecked ends best marked marked' number =
    (n : ℕ) (lines : List Line) → TreeHeld n lines ends best → (c : Line) → Memᴰ c lines → c.number ≡ number
    → (j : ℕ) → is_marked marked' j ≡ (is_marked marked j || (eqb c.number j || crosses (tree (n - 1) lines) j c))

-- ---- all closing lines

-- line j stands, and neither of its ends came in by it
abbrev pub closes_at : List ℕ → List ℕ → ℕ → Bool
closes_at ends best j =
    cond (eqb (get_or ends (j * 2) 0) 0) false
    (cond (eqb (line_in best (mark_of ends (j * 2))) j) false
    (not (eqb (line_in best (mark_of ends (j * 2 + 1))) j)))

-- the tables of some lines with numbers below q, their tree, and room
pub record Closes (ends best marked : List ℕ) (q : ℕ) : Type 0 where
  pub marks : number_limit ≤ length marked
  pub few : q ≤ number_limit
  pub n : ℕ
  pub bounded : Bounded n ends
  pub bests : n ≤ mark_limit
  pub order : List ℕ
  pub lines : List Line
  pub listed : Listed lines n q ends
  pub holding : Holding (tree (n - 1) lines) best order ends

-- a closing line is checked with what it crosses, and any other line is passed over
pub data Passed (ends best marked marked' : List ℕ) (number : ℕ) : Type 0 where
  closing_line : closes_at ends best number ≡ true → LoopChecked ends best marked marked' number → Passed ends best marked marked' number
  other_line : closes_at ends best number ≡ false → marked' ≡ marked → Passed ends best marked marked' number

-- marked are the closing lines and the lines that one of them crosses, and no other
abbrev pub LinesChecked : List ℕ → List ℕ → List ℕ → ℕ → Type 0
LinesChecked ends best marked' q =
    (n : ℕ) (order : List ℕ) (lines : List Line) → Listed lines n q ends → Holding (tree (n - 1) lines) best order ends
    → (j : ℕ) → j < number_limit → is_marked marked' j ≡ crossed (tree (n - 1) lines) j (closing lines (tree (n - 1) lines))
