-- The planted tables hold the entries of the tree. Assumes nothing.
use Prim.Native.Nat.{ℕ, zero, suc, ◌+◌, ◌-◌, ◌≤◌, ◌<◌}
use mathlib.Core.Path.{◌≡◌, sym, ◌∙◌, ap, subst}
use mathlib.Core.List.{List, ◌∷◌}
use native.Mathlib.Omega.{arith}
use lib.ListN.{length, get_or}
use lib.IntN.{ℤ}
use Rattle.book.specs.Line.{line_count}
use Rattle.book.specs.Good.{GoodLines}
use Rattle.book.specs.declared.Book.{Book}
use Rattle.network.specs.Standing.{Line, standing}
use Rattle.network.specs.Tree.{Tree, grow, marks, tree}
use Rattle.network.proofs.Grown.{Stepped, line, root, stop, stepped}
use Rattle.network.proofs.Marks.{placed_end, of_marks}
use Rattle.chains.specs.Chains.{Half, fore, aft, line_in}
use Rattle.chains.specs.Listed as ch
use Rattle.search.specs.Front.{Key, By}
use Rattle.search.specs.Front as f
use Rattle.tree.specs.Plant.{Holding}
use Rattle.tree.proofs.Entries.{Enters, enters_line, enters_at, placed, sized, EntryOf, later, in_at, order_of, came_of}
use Rattle.prepare.specs.Prepared.{BookPlanted}
use Rattle.adjust.specs.Planted.{Planted}
use Rattle.start.specs.Along.{Entered, none_yet, by_root, by_line_lem, Growth}

module _ (n q : ℕ) (lines : List Line) (ends best order : List ℕ) (li : ch.Listed lines n q ends)
    (ho : Holding (tree (n - 1) lines) best order ends) where
  abbrev at : ℕ → Tree
  at k = grow lines (marks (n - 1)) k

  module _ (k : ℕ) (few : k + 1 < n) where
    abbrev en : Enters lines (at k) (at (suc k))
    en = enters_at n lines li.sound k few

    order_is : get_or order k 0 ≡ en.e.mark
    unfolding tree
    order_is = order_of n lines li.sound order ho.entered k few

    mark : EntryOf n lines li.sound (get_or order k 0)
    mark = record { k = k; few = few; its = en; is_mark = sym order_is }

    key : Key (at (n - 1)) best ends (get_or order k 0) en.e.dist
    unfolding tree mark
    key =
        ho.keyed (get_or order k 0) en.e.dist (later n lines li.sound (suc k) (n - 1) (get_or order k 0) en.e.dist (omega arith)
        (in_at n lines li.sound (get_or order k 0) mark))

    number_of : {l : Line} {u : ℕ} → Half l u (get_or order k 0) key.h → line_in best (get_or order k 0) ≡ l.number
    number_of (fore p x z) = omega (arith, key.key, key.low)
    number_of (aft p x z) = omega (arith, key.key, key.low)

    -- the k-th place, by the size of the tree
    order_here : get_or order (length (at k)) 0 ≡ get_or order k 0
    order_here = ap (λ (j : ℕ). get_or order j 0) (sized n lines li.sound k (omega arith))

    line_here : line_in best (get_or order (length (at k)) 0) ≡ line_in best (get_or order k 0)
    line_here = ap (line_in best) order_here

    -- one entry more
    entered_more : Entered order best (at k) → Entered order best (at (suc k))
    unfolding mark
    entered_more r = subst (Entered order best) (sym en.next) (go key.by)
      where
        go : By (at (n - 1)) ends (get_or order k 0) en.e.dist key.h → Entered order best (en.e ∷ at k)
        go (f.root c a b) =
            let z : line_in best (get_or order k 0) ≡ 0 = omega (arith, key.key) in
            by_root (order_here ∙ order_is) (sym (came_of n lines li.sound (get_or order k 0) mark) ∙ c) (line_here ∙ z) r
        go (f.line l u du c hf low t i s) =
            by_line_lem (order_here ∙ order_is) l (sym (came_of n lines li.sound (get_or order k 0) mark) ∙ c) (line_here ∙ number_of hf) r

    -- its line is one of the book's
    line_low : 0 < q → line_in best (get_or order k 0) < q
    unfolding mark
    line_low pos = go key.by
      where
        go : By (at (n - 1)) ends (get_or order k 0) en.e.dist key.h → line_in best (get_or order k 0) < q
        go (f.root c a b) = let z : line_in best (get_or order k 0) ≡ 0 = omega (arith, key.key) in rw z pos
        go (f.line l u du c hf low t i s) =
            rw (number_of hf) (li.numbered l (enters_line en l (sym (came_of n lines li.sound (get_or order k 0) mark) ∙ c)))

    -- and it is a mark of the book
    mark_in : (0 < en.e.mark) × (en.e.mark ≤ n - 1)
    unfolding grow
    mark_in = go (stepped lines (marks (n - 1)) (at k)) en.next
      where
        go : {es : Tree} → Stepped lines (marks (n - 1)) (at k) es → es ≡ en.e ∷ at k → (0 < en.e.mark) × (en.e.mark ≤ n - 1)
        go (line {e = e} x) p =
            let same : e.mark ≡ en.e.mark = cc in
            let v = placed_end (n - 1) x.l x.sc.near x.sc.away (placed n lines li.sound x.l x.is_line) x.sc.ends in
            (omega (arith, v.0, x.its_mark), omega (arith, v.1, x.its_mark))
        go (root {e = e} x m) p =
            let same : e.mark ≡ en.e.mark = cc in
            let v = of_marks (n - 1) e.mark m in
            (omega (arith, v.0), omega (arith, v.1))
        go (stop d g) p = let z : length (at k) ≡ suc (length (at k)) = ap length p in absurd (omega arith)

    mark_low : (0 < get_or order k 0) × (get_or order k 0 ≤ n - 1)
    mark_low = rw order_is mark_in

  entered_to : (k : ℕ) → k < n → Entered order best (at k)
  unfolding grow
  entered_to zero h = none_yet
  entered_to (suc k) h = entered_more k (omega arith) (entered_to k (omega arith))

  pub tree_entered : 0 < n → Entered order best (tree (n - 1) lines)
  unfolding tree
  tree_entered h = entered_to (n - 1) (omega arith)

  pub tree_growth : 0 < q → n - 1 ≤ length order → n - 1 < length best → Growth order best (n - 1) (q - 1)
  tree_growth h lo lb = record {
    orders = lo;
    bests = lb;
    marks = λ k l. mark_low k (omega arith);
    lines = λ k l. omega (arith, line_low k (omega arith) h);
  }

-- the same, of a planted book
module _ (k : Book) (lines : List ℤ) (g : GoodLines k lines) {ends head next best order : List ℕ}
    (p : BookPlanted (k.marks + 1) lines ends head next best order) where
  marks_are : k.marks + 1 - 1 ≡ k.marks
  marks_are = omega arith

  book_entered : Entered order best (tree k.marks (standing lines))
  book_entered =
      subst (λ (b : ℕ). Entered order best (tree b (standing lines))) marks_are
      (tree_entered (k.marks + 1) (line_count lines + 1) (standing lines) ends best order p.listed p.holding (omega arith))

  book_growth : k.marks ≤ length order → k.marks < length best → Growth order best k.marks k.lines
  book_growth lo lb =
      let lines_are : line_count lines + 1 - 1 ≡ k.lines = omega (arith, g.good.whole) in
      subst (λ (b : ℕ). Growth order best b k.lines) marks_are (subst (Growth order best (k.marks + 1 - 1)) lines_are
      (tree_growth (k.marks + 1) (line_count lines + 1) (standing lines) ends best order p.listed p.holding (omega arith)
      (omega arith) (omega arith)))

  pub book_planted : k.marks ≤ length order → k.marks < length best → Planted lines k.marks k.lines head next best order
  book_planted lo lb = record { ordered = p.ordered; entered = book_entered; growth = book_growth lo lb }
