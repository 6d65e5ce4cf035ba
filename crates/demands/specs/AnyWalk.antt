-- Request 06, "Can I trust loops I did not list?": what it means that a report covers a closed walk that is not one of its loops.
-- Assumes nothing.
use Rattle.std.specs.Prelude.{ℕ, zero, suc, ◌≤◌, ◌<◌, ◌≡◌, List, [], ◌∷◌, eqb, ℤ, pos, negsuc, nat_abs, ◌+ℤ◌, length}
use Rattle.book.specs.Lent.{Lent}
use Rattle.book.specs.Line.{line_count}
use Rattle.network.specs.Standing.{standing}
use Rattle.network.specs.Walk.{Pass, Walk}
use Rattle.loops.specs.Loops.{Loop}
use Rattle.loops.specs.Row.{misclosure, row_misclosure}
use Rattle.loops.specs.Passes.{pass_if, passes, sum_of, combine, multiples_of}
use Rattle.loops.specs.Report.{loops_of}
use Rattle.demands.specs.TheLoops.{in_row}

-- the loops of a lent book
abbrev pub loops_in : Lent → List Loop
loops_in book = loops_of (nat_abs book.b) book.lines

-- "closed walk along standing lines": from mark m along standing lines back to mark m. It may run a line again and again, or to and fro;
-- the empty walk is one
abbrev pub Closed : Lent → ℕ → List Pass → Type 0
Closed book m w = Walk (standing book.lines) m m w

-- "whole numbers, one to each reported loop, such that the signed passes of the walk over each line are the sum of those multiples of the
-- loops' passes": over each line of the book by its number, be it withdrawn
pub record Multiples (book : Lent) (rows : ℕ) (w : List Pass) (ks : List ℤ) : Type 0 where
  pub one_to_each_row : length ks ≡ rows
  pub same_passes : (n : ℕ) → 0 < n → n ≤ line_count book.lines → passes w n ≡ combine ks (loops_in book) n

-- the reported misclosures, the fourth number of each row: those of the n rows after the first i
unfoldable pub misclosures_from : ℕ → ℕ → List ℤ → List ℤ
misclosures_from i zero report = []
misclosures_from i (suc n) report = in_row row_misclosure report i ∷ misclosures_from (suc i) n report

-- "A student walked a circuit of his own and asked if my report covered it": what the first rows of `report` say of the walk w
pub record Covers (book : Lent) (rows : ℕ) (report : List ℤ) (w : List Pass) : Type 0 where
  -- "there are whole numbers, one to each reported loop": these
  pub there_are : Multiples book rows w (multiples_of w (loops_in book))
  -- "Those numbers are the only ones."
  pub only_ones : (ks js : List ℤ) → Multiples book rows w ks → Multiples book rows w js → ks ≡ js
  -- "and so its misclosure is the same sum of reported misclosures"
  pub same_sum : (ks : List ℤ) → Multiples book rows w ks → misclosure w ≡ sum_of ks (misclosures_from 0 rows report)
  -- "If all reported misclosures are 0, every closed walk sums to 0."
  pub closes_if_all_do : ((i : ℕ) → i < rows → in_row row_misclosure report i ≡ pos 0) → misclosure w ≡ pos 0

-- the signed passes over line n in what is listed: 1 for each n, -1 for each -n
abbrev pub listed_once : ℤ → ℕ → ℤ
listed_once (pos k) n = pass_if (eqb k n) (pos 1)
listed_once (negsuc k) n = pass_if (eqb (suc k) n) (negsuc 0)

unfoldable pub listed_passes : List ℤ → ℕ → ℤ
listed_passes [] n = pos 0
listed_passes (z ∷ zs) n = listed_once z n +ℤ listed_passes zs n
