-- A walk that comes through no mark twice runs fewer lines than the book has marks, and no more than the tree has. Assumes nothing.
use Prim.Native.Nat.{ℕ, suc, ◌≤◌, ◌<◌}
use native.Mathlib.Omega.{arith}
use mathlib.Core.Path.{◌≡◌, refl, sym, ◌∙◌, ap}
use mathlib.Core.Bool.{true}
use mathlib.Core.List.Memᴰ
use mathlib.Core.List.{List, [], ◌∷◌, Memᴰ}
use lib.ListN.{length}
use borrow.Author.Tests.{eq-eqb, ne_eqb}
use Rattle.network.specs.Standing.{Line}
use Rattle.network.specs.Sound.{Placed, Sound}
use Rattle.network.specs.Pairwise.{no_pair, pairs}
use Rattle.network.specs.Tree.{tree, tree_lines}
use Rattle.network.specs.Piece.{root_at, count_to}
use Rattle.network.specs.Subgraph.{is_in}
use Rattle.network.specs.Walk.{Pass, start, stop, Walk, here, step, marks_on, AllDifferent}
use Rattle.network.proofs.Count.{tree_and_roots}
use Rattle.network.proofs.Growth.{tree_grows}
use Rattle.network.proofs.Marks.{placed_end, size}
use Rattle.network.proofs.Roots.{count_none, count_but_one, count_not, count_both, pieces_are_roots, root_is_lowest}
use Rattle.network.proofs.Shortest.{ends_of}
use Rattle.network.proofs.ShortestPath.{from_mark}
use Rattle.network.proofs.Subgraph.{is_in_mem, not_in}
use Rattle.network.proofs.Walks.{walk_append, way_back}

-- marks that are all different are as many as those of the marks 1 to b that are among them
count_marks : (b : ℕ) {ms : List ℕ} → AllDifferent ms → ((m : ℕ) → Memᴰ m ms → (0 < m) × (m ≤ b))
    → count_to (λ m. is_in m ms) b ≡ length ms
unfolding is_in
count_marks b no_pair h = count_none b
count_marks b (pairs {a = m} {rest = ms} new p) h =
    let v = h m (Memᴰ.head refl) in
    count_but_one (λ k. is_in k (m ∷ ms)) (λ k. is_in k ms) m (λ k d. rw (ne_eqb m k (λ z. d (sym z))))
    (not_in (is_in m ms) (λ i. new m (is_in_mem ms m i) refl)) b v.0 v.1
    ∙ rw (eq-eqb m m refl) (omega (arith, count_marks b p (λ k i. h k (Memᴰ.tail i))))

-- a walk has one mark more than lines
length_marks_on : (u : ℕ) (w : List Pass) → length (marks_on u w) ≡ suc (length w)
unfolding marks_on
length_marks_on u [] = refl
length_marks_on u (p ∷ ps) = ap suc (length_marks_on (stop p) ps)

module _ (b : ℕ) (lines : List Line) (placed : (l : Line) → Memᴰ l lines → Placed b l) where
  -- and they are marks of the book
  marks_of_book : {r u : ℕ} {w : List Pass} → Walk lines r u w → (0 < u) × (u ≤ b)
      → (m : ℕ) → Memᴰ m (marks_on u w) → (0 < m) × (m ≤ b)
  unfolding marks_on
  marks_of_book (here e) v m (Memᴰ.head x) = omega (arith, x)
  marks_of_book (here e) v m (Memᴰ.tail i) = absurd (Memᴰ.not-nil i)
  marks_of_book (step s i w) v m (Memᴰ.head x) = omega (arith, x)
  marks_of_book (step {p = p} s i w) v m (Memᴰ.tail j) =
      marks_of_book w (placed_end b p.line (start p) (stop p) (placed p.line i) (ends_of p)) m j

  -- so its lines and one are the marks of the book that it comes through
  count_way : {r u : ℕ} {w : List Pass} → Walk lines r u w → (0 < u) × (u ≤ b) → AllDifferent (marks_on u w)
      → count_to (λ m. is_in m (marks_on u w)) b ≡ suc (length w)
  count_way {u = u} {w = w} x v d = count_marks b d (marks_of_book x v) ∙ length_marks_on u w

  pub fewer_lines_than_marks : {r u : ℕ} {w : List Pass} → Walk lines r u w → (0 < u) × (u ≤ b) → AllDifferent (marks_on u w) → length w < b
  fewer_lines_than_marks {u = u} {w = w} x v d = omega (arith, count_way x v d, count_not (λ m. is_in m (marks_on u w)) b)

module _ (b : ℕ) (lines : List Line) (sound : Sound b lines) where
  -- a walk comes through one root at most: of two the higher would be joined with a lower mark
  one_root : {r u : ℕ} {w : List Pass} → Walk lines r u w → (m n : ℕ) → 0 < m → m < n → n ≤ b
      → is_in m (marks_on u w) ≡ true → root_at (tree b lines) m ≡ true → is_in n (marks_on u w) ≡ true → root_at (tree b lines) n ≡ true
      → ⊥
  one_root {u = u} {w = w} x m n low lt high im rm jn rn =
      root_is_lowest b lines sound (tree_grows b lines sound) n m rn low lt
      (walk_append (from_mark x n (is_in_mem (marks_on u w) n jn)).1 (way_back (from_mark x m (is_in_mem (marks_on u w) m im)).1).1)

  -- every other mark came in by a line of the tree
  pub no_more_lines_than_tree : {r u : ℕ} {w : List Pass} → Walk lines r u w → (0 < u) × (u ≤ b) → AllDifferent (marks_on u w)
      → length w ≤ length (tree_lines (tree b lines))
  no_more_lines_than_tree {u = u} {w = w} x v d =
      let t = tree b lines in
      omega (
        arith,
        count_way b lines sound.placed x v d,
        count_both (λ m. is_in m (marks_on u w)) (root_at t) b (one_root x),
        pieces_are_roots b lines sound (tree_grows b lines sound),
        tree_and_roots t,
        size b lines sound.placed,
      )
