-- Demand 2, "The loops are those of the Memorandum", of a lent book that passes the test. Assumes nothing.
use mathlib.Core.Path.{◌≡◌, refl, ap, subst}
use mathlib.Core.Logic.{◌⊎◌, ◌↔◌}
use mathlib.Core.Bool.{true}
use mathlib.Core.List.{List, ◌∷◌, Memᴰ}
use mathlib.Core.Option.{some}
use Prim.Native.Nat.{ℕ, ◌+◌, ◌≤◌, ◌<◌}
use lib.ListN.{length}
use lib.IntN.{ℤ, pos}
use Rattle.book.specs.Lent.{Lent}
use Rattle.book.specs.Limits.{least_length}
use Rattle.book.specs.Test.{test_of}
use Rattle.book.specs.declared.Book.{Book}
use Rattle.book.specs.Test.{Good}
use Rattle.book.proofs.Goods.{tested_good}
use Rattle.network.specs.Standing.{Line, standing}
use Rattle.network.specs.Sound.{Sound}
use Rattle.network.specs.Tree.{Entry, Tree}
use Rattle.network.specs.Growth.{Growth, LeadsNearer, times_entered}
use Rattle.network.specs.Piece.{LowestOfPiece, root_at, count_to}
use Rattle.network.specs.ClosingOrder.{ClosingOrder}
use Rattle.network.specs.Subgraph.{numbers}
use Rattle.network.specs.Pairwise.{Pairwise}
use Rattle.network.specs.Walk.{Pass, pass, Walk, marks_on, AllDifferent}
use Rattle.network.proofs.Enough.{shortest_unique}
use Rattle.network.proofs.Entries.{each_mark_enters_once, tree_line_leads_nearer}
use Rattle.network.proofs.Growth.{tree_grows, only_tree}
use Rattle.network.proofs.Pieces.{root_exactly_if_lowest, as_many_pieces_as_roots}
use Rattle.network.proofs.ClosingLines as closings
use Rattle.loops.specs.Loops.{Loop, loop_at}
use Rattle.loops.specs.AllLoops.{LoopsOf, all_loops}
use Rattle.loops.specs.EachLoop.{IsLoopOf, OneToOne}
use Rattle.loops.specs.Row.{misclosure}
use Rattle.loops.specs.Checked.{checked, not_checked}
use Rattle.loops.specs.Circuit.{Circuit}
use Rattle.loops.specs.Passes.{SumOf, combine_misclosures}
use Rattle.loops.proofs.AllLoops as all
use Rattle.loops.proofs.EachLoop.{each_loop_is, loop_has_closing_line, no_earlier_loop_runs_it, loops_are_counted}
use Rattle.loops.proofs.Basis.{basis}
use Rattle.loops.proofs.Misclosure.{misclosure_is_sum, all_close}
use Rattle.loops.proofs.Checked as checks
use Rattle.loops.specs.Report.{loops_of, pieces_of}
use Rattle.loops.proofs.Sounding.{good_sound}
use Rattle.loops.proofs.Places.{loop_at_is, pairs_at, loop_at_lem}
use Rattle.demands.specs.TheLoops.{tree_of, tree_lines_of, closing_lines_of, subgraph, LoopIs}

-- a loop of one closing line is a loop of no other
its_own : {lines : List Line} {c d : Line} {path : List Pass} {lp : Loop} → lp ≡ pass c true ∷ path → IsLoopOf lines d lp
    → Walk lines c.from c.from lp × AllDifferent (marks_on c.to path)
its_own {lines = lines} {c = c} {d = d} {path = path} {lp = lp} e w =
    let first : ◌≡◌ {A = Pass} (pass d true) (pass c true) = cc w.closing_first in
    let line : d ≡ c = ap (λ (p : Pass). p.line) first in
    let back : w.path ≡ path = cc w.closing_first in
    (subst (λ (l : Line). Walk lines l.from l.from lp) line w.closed, rw (← line, ← back) w.no_mark_twice)

module _ (book : Lent) (k : Book) (passes : test_of book ≡ Good k) where
  sound : Sound k.marks (standing book.lines)
  sound = good_sound k book (tested_good book k passes)

  -- ---- the tree

  -- the tree grows as document 01 says: the candidate with the lowest score, then the lowest number, enters; a piece done, the next root
  pub tree_grows_by_rule : Growth k.marks (standing book.lines) (tree_of k.marks book.lines)
  tree_grows_by_rule = tree_grows k.marks (standing book.lines) sound

  -- and no other tree of as many marks grows so
  pub no_other_tree : {es : Tree} → Growth k.marks (standing book.lines) es → length es ≡ k.marks
      → es ≡ tree_of k.marks book.lines
  no_other_tree g n = only_tree k.marks (standing book.lines) sound g n

  -- each mark enters exactly once
  pub each_mark_once : (m : ℕ) → 0 < m → m ≤ k.marks → times_entered m (tree_of k.marks book.lines) ≡ 1
  each_mark_once = each_mark_enters_once k.marks (standing book.lines) sound

  -- "the distance falls at each step", by the tree line's length, at least 10
  pub distance_falls : (e : Entry) → Memᴰ e (tree_of k.marks book.lines) → (l : Line) → e.by ≡ some l
      → LeadsNearer (tree_of k.marks book.lines) e l × (least_length ≤ l.length)
  distance_falls = tree_line_leads_nearer k.marks (standing book.lines) sound

  -- ---- pieces and closing lines

  -- a mark is a root exactly if it is the lowest of its piece
  pub roots_are_lowest : (m : ℕ) → 0 < m → m ≤ k.marks
      → (root_at (tree_of k.marks book.lines) m ≡ true) ↔ LowestOfPiece (standing book.lines) m
  roots_are_lowest = root_exactly_if_lowest k.marks (standing book.lines) sound

  -- so the pieces answered are as many as the marks that are the lowest of their piece
  pub pieces_are_roots : pieces_of k.marks book.lines ≡ count_to (root_at (tree_of k.marks book.lines)) k.marks
  unfolding pieces_of
  pieces_are_roots = as_many_pieces_as_roots k.marks (standing book.lines) sound

  -- every standing line is a tree line or a closing line
  pub tree_or_closing : (l : Line) → Memᴰ l (standing book.lines)
      → Memᴰ l (tree_lines_of k.marks book.lines) ⊎ Memᴰ l (closing_lines_of k.marks book.lines)
  tree_or_closing = closings.tree_line_or_closing_line k.marks (standing book.lines) sound

  -- and never both
  pub never_both : (l c : Line) → Memᴰ l (tree_lines_of k.marks book.lines) → Memᴰ c (closing_lines_of k.marks book.lines)
      → c.number ≡ l.number → ⊥
  never_both = closings.never_tree_line_and_closing_line k.marks (standing book.lines) sound

  -- the closing lines are in document 01's order, "several at one new mark go by score, then number"
  pub closing_lines_in_order : ClosingOrder (standing book.lines) (tree_of k.marks book.lines)
      (closing_lines_of k.marks book.lines)
  closing_lines_in_order = closings.closing_lines_in_order k.marks (standing book.lines) sound

  -- and no other list of lines is in that order
  pub no_other_order : {cs : List Line} → ClosingOrder (standing book.lines) (tree_of k.marks book.lines) cs
      → cs ≡ closing_lines_of k.marks book.lines
  no_other_order = closings.only_closing_order k.marks (standing book.lines) sound

  -- ---- the loops

  -- "lines minus marks plus pieces in all"
  pub loops_are_lines_less_marks_plus_pieces : length (loops_of k.marks book.lines) + k.marks
      ≡ length (standing book.lines) + pieces_of k.marks book.lines
  unfolding loops_of pieces_of
  loops_are_lines_less_marks_plus_pieces = loops_are_counted k.marks (standing book.lines) sound

  -- "one loop for each line beyond a tree": to each closing line its loop, in their order
  pub one_loop_to_each_closing_line : OneToOne (IsLoopOf (standing book.lines)) (closing_lines_of k.marks book.lines)
      (loops_of k.marks book.lines)
  unfolding loops_of
  one_loop_to_each_closing_line = each_loop_is k.marks (standing book.lines) sound

  -- the loops as one list: each runs its closing line, then the shortest path over the tree and all closing lines before it
  pub loops_by_rule : LoopsOf (standing book.lines) (numbers (tree_lines_of k.marks book.lines))
      (closing_lines_of k.marks book.lines) (loops_of k.marks book.lines)
  unfolding loops_of
  loops_by_rule = all.loops_are k.marks (standing book.lines) sound

  -- and no other list of loops is so
  pub no_other_loops : {ls : List Loop}
      → LoopsOf (standing book.lines) (numbers (tree_lines_of k.marks book.lines)) (closing_lines_of k.marks book.lines) ls
      → ls ≡ loops_of k.marks book.lines
  no_other_loops w = all.loops_of_unique w loops_by_rule

  -- "A closing line whose path has one line is not added": were every closing line added, the loops would be the same
  pub not_added_changes_no_loop : loops_of k.marks book.lines ≡ all_loops k.marks (standing book.lines)
  unfolding loops_of
  not_added_changes_no_loop = all.not_added_never_matters k.marks (standing book.lines) sound

  -- "A loop runs its closing line .. then back by the shortest path", ties by line numbers: what the loop at each place is, and that it
  -- is the only one
  pub each_loop_is_so : (i : ℕ) → i < length (loops_of k.marks book.lines) → LoopIs k.marks book.lines i
  unfolding subgraph loops_of
  each_loop_is_so i h =
      let w = loop_at_lem loops_by_rule (tree_lines_of k.marks book.lines) (λ n. refl) i h in
      let whole =
      (loop_has_closing_line k.marks (standing book.lines) sound (loop_at (loops_of k.marks book.lines) i)
      (loop_at_is (loops_of k.marks book.lines) i h)).2 in
      record {
        closing_line = w.line;
        path = w.path;
        closing_line_first = w.its;
        closes = w.closes;
        stands = closings.closing_line_stands k.marks (standing book.lines) sound w.line w.closes;
        not_in_tree = λ l m e. never_both l w.line m w.closes e;
        not_in_earlier_loop = λ j l. rw w.its at (pairs_at (no_earlier_loop_runs_it k.marks (standing book.lines) sound) j i l h);
        shortest = w.shortest;
        only_one = λ other x. shortest_unique x w.shortest;
        closed = (its_own w.its whole).0;
        no_mark_twice_lem = (its_own w.its whole).1;
        no_line_twice_lem = whole.no_line_twice;
      }

  -- ---- circuits

  -- a standing line is run in some loop exactly if a closed circuit that uses each line at most once passes through it
  pub checked_exactly_if_circuit : (l : Line) → Memᴰ l (standing book.lines)
      → (checked l.number (loops_of k.marks book.lines) ≡ true) ↔ Circuit (standing book.lines) l.number
  unfolding loops_of
  checked_exactly_if_circuit = checks.checked_iff_circuit k.marks (standing book.lines) sound

  -- "A standing line is listed as not checked exactly if no closed circuit that uses each line at most once passes through it"
  pub not_checked_exactly_if_no_circuit : (n : ℕ) → Memᴰ n (not_checked (loops_of k.marks book.lines) (standing book.lines))
      ↔ ((l : Line) × Memᴰ l (standing book.lines) × (n ≡ l.number) × (Circuit (standing book.lines) n → ⊥))
  unfolding loops_of
  not_checked_exactly_if_no_circuit = checks.not_checked_iff_no_circuit k.marks (standing book.lines) sound

  -- "The not-checked list goes by rising line number"
  pub not_checked_rises : Pairwise (λ (m n : ℕ). m < n) (not_checked (loops_of k.marks book.lines) (standing book.lines))
  unfolding loops_of
  not_checked_rises = checks.not_checked_rises k.marks (standing book.lines) sound

  -- ---- the loops are a basis

  -- every closed walk is a sum of whole multiples of the loops, and only one such
  pub closed_walk_is_sum_of_loops : (r : ℕ) {w : List Pass} → Walk (standing book.lines) r r w
      → (ks : List ℤ) × SumOf (standing book.lines) (loops_of k.marks book.lines) w ks
      × ((js : List ℤ) → SumOf (standing book.lines) (loops_of k.marks book.lines) w js → js ≡ ks)
  unfolding loops_of
  closed_walk_is_sum_of_loops r x = basis k.marks (standing book.lines) sound r x

  -- and its misclosure is the same sum of theirs
  pub misclosure_is_sum_of_loops : (r : ℕ) {w : List Pass} → Walk (standing book.lines) r r w → (ks : List ℤ)
      → SumOf (standing book.lines) (loops_of k.marks book.lines) w ks
      → misclosure w ≡ combine_misclosures ks (loops_of k.marks book.lines)
  unfolding loops_of
  misclosure_is_sum_of_loops r x ks s = misclosure_is_sum k.marks (standing book.lines) sound r x ks s

  -- so where every loop closes, every closed walk does
  pub all_loops_close_then_all_walks : ((lp : Loop) → Memᴰ lp (loops_of k.marks book.lines) → misclosure lp ≡ pos 0)
      → (r : ℕ) {w : List Pass}
      → Walk (standing book.lines) r r w → misclosure w ≡ pos 0
  unfolding loops_of
  all_loops_close_then_all_walks h r x = all_close k.marks (standing book.lines) sound h r x
