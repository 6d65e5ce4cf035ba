-- Document 01, "Tree and closing lines (Memorandum, part 2)": the tree.
-- `lines` is everywhere a list of standing lines by rising number, so that "the lowest number" is "the first in the list".
-- Assumes nothing.
use Rattle.std.specs.Prelude.{ℕ, zero, suc, ◌+◌, Bool, true, false, List, [], ◌∷◌, ◌++◌, eqb, leb}
use Rattle.std.proofs.Math.Option.{Option, none, some}
use Rattle.network.specs.Standing.{Line}

-- What enters the tree: a mark, its distance from its root, and the line it came in by (none: the mark is a root)
pub record Entry : Type 0 where
  pub mark : ℕ
  pub dist : ℕ
  pub by : Option Line

abbrev pub entry : ℕ → ℕ → Option Line → Entry
entry m d l = record { mark = m; dist = d; by = l }

-- A tree is its entries, the newest first.
abbrev pub Tree : Type 0
Tree = List Entry

-- A line that has one end in the tree, and its score
pub record Candidate : Type 0 where
  pub score : ℕ
  pub line : Line

abbrev pub candidate : ℕ → Line → Candidate
candidate s l = record { score = s; line = l }

abbrev pub or_else : Bool → Option ℕ → Option ℕ → Option ℕ
or_else true a b = a
or_else false a b = b

-- the distance of mark m, if it is in the tree
unfoldable pub distance : Tree → ℕ → Option ℕ
distance [] m = none
distance (e ∷ es) m = or_else (eqb e.mark m) (some e.dist) (distance es m)

abbrev pub one_end : Option ℕ → Option ℕ → ℕ → Option ℕ
one_end none none len = none
one_end (some d) none len = some (d + len)
one_end none (some d) len = some (d + len)
one_end (some d) (some e) len = none

-- "A line becomes a candidate when the first of its two ends enters the tree; its score is that end's distance plus its length."
-- none: the line is no candidate, or not any more
unfoldable pub score : Tree → Line → Option ℕ
unfolding distance
score es l = one_end (distance es l.from) (distance es l.to) l.length

abbrev pub far_of : Option ℕ → Line → ℕ
far_of none l = l.from
far_of (some d) l = l.to

-- the far mark of a candidate: its end that is not in the tree
unfoldable pub far : Tree → Line → ℕ
unfolding distance
far es l = far_of (distance es l.from) l

abbrev pub lower_of : Bool → Candidate → Candidate → Option Candidate
lower_of true a b = some a
lower_of false a b = some b

-- of two candidates the one with the lower score; the first if they are equal
abbrev pub lower : Candidate → Option Candidate → Option Candidate
lower a none = some a
lower a (some b) = lower_of (leb a.score b.score) a b

abbrev pub lowest_of : Option ℕ → Line → Option Candidate → Option Candidate
lowest_of none l best = best
lowest_of (some s) l best = lower (candidate s l) best

-- "The candidate with the lowest score, then the lowest number"
unfoldable pub lowest : Tree → List Line → Option Candidate
unfolding score
lowest es [] = none
lowest es (l ∷ ls) = lowest_of (score es l) l (lowest es ls)

abbrev pub first_of : Option ℕ → ℕ → Option ℕ → Option ℕ
first_of none m rest = some m
first_of (some d) m rest = rest

-- the first of the marks ms that is not in the tree
unfoldable pub first_out : Tree → List ℕ → Option ℕ
unfolding distance
first_out es [] = none
first_out es (m ∷ ms) = first_of (distance es m) m (first_out es ms)

-- "The candidate .. enters; its far mark takes the score as distance." Where there is none the piece is done, and the next root enters at
-- 0.
abbrev pub next : Tree → Option Candidate → Option ℕ → Tree
next es (some c) r = entry (far es c.line) c.score (some c.line) ∷ es
next es none (some m) = entry m 0 none ∷ es
next es none none = es

unfoldable pub step : List Line → List ℕ → Tree → Tree
unfolding far lowest first_out
step lines roots es = next es (lowest es lines) (first_out es roots)

-- k steps from the empty tree: one mark enters at each
unfoldable pub grow : List Line → List ℕ → ℕ → Tree
unfolding step
grow lines roots zero = []
grow lines roots (suc k) = step lines roots (grow lines roots k)

-- the marks 1 to b, before the marks ms
unfoldable pub up_to : ℕ → List ℕ → List ℕ
up_to zero ms = ms
up_to (suc b) ms = up_to b (suc b ∷ ms)

unfoldable pub marks : ℕ → List ℕ
unfolding up_to
marks b = up_to b []

-- "Pieces go in order of their lowest mark, which is the root at distance 0." The tree of a book of b marks
unfoldable pub tree : ℕ → List Line → Tree
unfolding grow marks
tree b lines = grow lines (marks b) b

abbrev pub roots1 : Option Line → ℕ → ℕ
roots1 none n = suc n
roots1 (some l) n = n

-- the pieces: one to a root
unfoldable pub pieces : Tree → ℕ
pieces [] = zero
pieces (e ∷ es) = roots1 e.by (pieces es)

abbrev pub lines1 : Option Line → List Line → List Line
lines1 none ls = ls
lines1 (some l) ls = ls ++ (l ∷ [])

-- the tree's lines, in the order in which they entered
unfoldable pub tree_lines : Tree → List Line
tree_lines [] = []
tree_lines (e ∷ es) = lines1 e.by (tree_lines es)
