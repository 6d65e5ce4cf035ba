-- Request 01, "marks with two lines are merged into links": what a link is, and how links are read and joined.
-- Assumes nothing.
use Rattle.std.specs.Prelude.{ℕ, zero, Bool, true, cond, List, [], ◌∷◌, ◌++◌, eqb, leb}
use Rattle.network.specs.Standing.{Line}
use Rattle.network.specs.Walk.{Pass, pass, flip}

-- A link: lines run one after the other, from the mark `first` to the mark `last`
pub record Link : Type 0 where
  pub first : ℕ
  pub last : ℕ
  pub way : List Pass

abbrev pub link : ℕ → ℕ → List Pass → Link
link f l w = record { first = f; last = l; way = w }

-- a standing line as a link of its own
abbrev pub own_link : Line → Link
own_link l = link l.from l.to (pass l true ∷ [])

-- a way run back
unfoldable pub turned_way : List Pass → List Pass
turned_way [] = []
turned_way (p ∷ ps) = turned_way ps ++ (flip p ∷ [])

-- the link read from its last mark to its first
abbrev pub turned : Link → Link
turned x = link x.last x.first (turned_way x.way)

-- a link with an end at mark m, read from m; and read to m
abbrev pub read_from : ℕ → Link → Link
read_from m x = cond (eqb x.first m) x (turned x)

abbrev pub read_to : ℕ → Link → Link
read_to m x = cond (eqb x.last m) x (turned x)

-- the link x and, where it stops, the link y: one link
abbrev pub joined : Link → Link → Link
joined x y = link x.first y.last (x.way ++ y.way)

-- "Each link gives its two junctions, lower first"
abbrev pub lower_first : Link → Link
lower_first x = cond (leb x.first x.last) x (turned x)

-- "A self-closing loop is a link from a mark to itself"
abbrev pub closes_on_itself : Link → Bool
closes_on_itself x = eqb x.first x.last

-- the lowest of n and the numbers of the lines of a way
unfoldable pub lowest_from : ℕ → List Pass → ℕ
lowest_from n [] = n
lowest_from n (p ∷ ps) = lowest_from (cond (leb n p.line.number) n p.line.number) ps

-- the lowest line of a way
unfoldable pub lowest_line : List Pass → ℕ
unfolding lowest_from
lowest_line [] = zero
lowest_line (p ∷ ps) = lowest_from p.line.number ps

-- a closed way that begins with the pass p, so run that p is forward
abbrev pub positive : Pass → List Pass → List Pass
positive p rest = cond p.forward (p ∷ rest) (flip p ∷ turned_way rest)

-- a closed way, begun with line n; `before` is what comes before the passes that are still to be looked at
unfoldable pub begun_with : ℕ → List Pass → List Pass → List Pass
unfolding turned_way
begun_with n before [] = before
begun_with n before (p ∷ ps) = cond (eqb p.line.number n) (positive p (ps ++ before)) (begun_with n (before ++ (p ∷ [])) ps)

-- "it starts with its lowest line, positive". The mark at which it hangs stays its first and its last
abbrev pub begun : Link → Link
begun x = link x.first x.last (begun_with (lowest_line x.way) [] x.way)
