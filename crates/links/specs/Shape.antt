-- What links, spurs and self-closing loops are once no step is left, as plain statements.
-- Assumes nothing.
use Rattle.std.specs.Prelude.{ℕ, zero, ◌+◌, ◌<◌, ◌≡◌, true, eqb, ℤ, length}
use mathlib.Core.List.{List, [], ◌∷◌, ◌++◌, Memᴰ}
use Rattle.network.specs.Standing.{Line}
use Rattle.network.specs.Piece.{bit}
use Rattle.network.specs.Walk.{Pass, pass, Walk, marks_on, OnlyOnce}
use Rattle.loops.specs.Loops.{loops}
use Rattle.loops.specs.Row.{misclosure}
use Rattle.loops.specs.Passes.{SumOf, combine_misclosures}
use Rattle.links.specs.Link.{Link, turned, lowest_line}

-- some lines, run from the first mark to the last
pub record IsWay (lines : List Line) (x : Link) : Type 0 where
  pub is_walk : Walk lines x.last x.first x.way
  pub some_line : x.way ≡ [] → ⊥

-- "Each link gives its two junctions, lower first"
pub record IsLink (lines : List Line) (x : Link) : Type 0 where
  pub is_way : IsWay lines x
  pub lower : x.first < x.last

-- "A self-closing loop is a link from a mark to itself; it starts with its lowest line, positive": a closed walk that runs no line twice,
-- with the mark at which it hangs on it
pub record IsLoop (lines : List Line) (x : Link) : Type 0 where
  pub lowest : Line
  pub rest : List Pass
  pub begins : x.way ≡ pass lowest true ∷ rest
  pub is_lowest : (p : Pass) → Memᴰ p rest → lowest.number < p.line.number
  pub closed : Walk lines lowest.from lowest.from x.way
  pub once_each : OnlyOnce x.way
  pub hangs : Memᴰ x.first (marks_on lowest.from x.way)
  pub itself : x.first ≡ x.last

-- how often a way runs line n; and how often links do in all
unfoldable pub times_run : ℕ → List Pass → ℕ
times_run n [] = zero
times_run n (p ∷ ps) = bit (eqb p.line.number n) + times_run n ps

unfoldable pub times_in : ℕ → List Link → ℕ
unfolding times_run
times_in n [] = zero
times_in n (x ∷ xs) = times_run n x.way + times_in n xs

-- how many lines links have in all, each as often as it is run
unfoldable pub lines_in : List Link → ℕ
lines_in [] = zero
lines_in (x ∷ xs) = length x.way + lines_in xs

-- links by lowest line: each below the next
abbrev pub ByLowest : Link → Link → Type 0
ByLowest x y = lowest_line x.way < lowest_line y.way

-- links one after the other, each in its own sense or turned: from mark u to mark r by the way w
pub data Along (xs : List Link) (r : ℕ) : ℕ → List Pass → Type 0 where
  arrived : {u : ℕ} → u ≡ r → Along xs r u []
  onward : {u : ℕ} {x : Link} {w : List Pass} → Memᴰ x xs → x.first ≡ u → Along xs r x.last w → Along xs r u (x.way ++ w)
  back : {u : ℕ} {x : Link} {w : List Pass} → Memᴰ x xs → x.last ≡ u → Along xs r x.first w
      → Along xs r u ((turned x).way ++ w)

-- there are whole numbers, one to each reported loop, such that w is the sum of these multiples of the loops, and its misclosure the sum of
-- the same multiples of their misclosures
abbrev pub Combined : ℕ → List Line → List Pass → Type 0
Combined b lines w = (ks : List ℤ) × SumOf lines (loops b lines) w ks × (misclosure w ≡ combine_misclosures ks (loops b lines))
