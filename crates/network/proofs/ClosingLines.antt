-- The closing lines of a book: which lines they are, and their order. Assumes nothing.
use Prim.Native.Nat.{ℕ, ◌≤◌, ◌<◌}
use mathlib.Core.Path.{◌≡◌, refl}
use mathlib.Core.Logic.{◌⊎◌, inl, inr}
use mathlib.Core.List.{List, Memᴰ}
use mathlib.Core.Option.{Option, none, some}
use Rattle.network.specs.Standing.{Line}
use Rattle.network.specs.Sound.{Sound}
use Rattle.network.specs.Tree.{distance, tree, tree_lines}
use Rattle.network.specs.Closing.{closing}
use Rattle.network.specs.ClosingOrder.{ClosingOrder, Distinct}
use Rattle.network.proofs.Grown.{Grown}
use Rattle.network.proofs.Marks.{all_marks, grows}
use Rattle.network.proofs.Closers.{InTree, tree_or_closing, closing_line, closing_not_tree, distinct_closing}
use Rattle.network.proofs.ClosingOrder.{closing_in_order, closing_order_unique}
use Rattle.network.proofs.Subgraph.{in_tree_lines, of_tree_lines}

module _ (b : ℕ) (lines : List Line) (sound : Sound b lines) where
  grown_tree : Grown lines (tree b lines)
  grown_tree = grows b lines sound.placed

  -- every mark of the book has a distance
  pub has_distance : (m : ℕ) → 0 < m → m ≤ b → (d : ℕ) × (distance (tree b lines) m ≡ some d)
  has_distance m low high = go (distance (tree b lines) m) refl
    where
      go : (o : Option ℕ) → distance (tree b lines) m ≡ o → (d : ℕ) × (distance (tree b lines) m ≡ some d)
      go none e = absurd (all_marks b lines sound.placed m low high e)
      go (some d) e = (d, e)

  -- every standing line is a tree line or a closing line
  pub tree_line_or_closing_line : (l : Line) → Memᴰ l lines
      → Memᴰ l (tree_lines (tree b lines)) ⊎ Memᴰ l (closing lines (tree b lines))
  tree_line_or_closing_line l m =
      let p = sound.placed l m in
      let f = has_distance l.from p.from_low p.from_high in
      let t = has_distance l.to p.to_low p.to_high in
      go (tree_or_closing lines sound.rising sound.apart grown_tree l m f.0 t.0 f.1 t.1)
    where
      go : InTree (tree b lines) l ⊎ Memᴰ l (closing lines (tree b lines))
          → Memᴰ l (tree_lines (tree b lines)) ⊎ Memᴰ l (closing lines (tree b lines))
      go (inl t) = inl (in_tree_lines (tree b lines) l t)
      go (inr c) = inr c

  -- and never both, not even under one number
  pub never_tree_line_and_closing_line : (l c : Line) → Memᴰ l (tree_lines (tree b lines)) → Memᴰ c (closing lines (tree b lines))
      → c.number ≡ l.number → ⊥
  never_tree_line_and_closing_line l c t m =
      closing_not_tree lines sound.rising sound.apart grown_tree c m l (of_tree_lines (tree b lines) l t)

  -- a closing line is a standing line
  pub closing_line_stands : (c : Line) → Memᴰ c (closing lines (tree b lines)) → Memᴰ c lines
  closing_line_stands c m = closing_line lines sound.rising sound.apart grown_tree c m

  -- each closing line occurs once
  pub each_line_closes_once : Distinct (closing lines (tree b lines))
  each_line_closes_once = distinct_closing lines sound.rising sound.apart grown_tree

  -- the closing lines are in document 01's order, and in no other list they are
  pub closing_lines_in_order : ClosingOrder lines (tree b lines) (closing lines (tree b lines))
  closing_lines_in_order = closing_in_order sound.rising (tree b lines)

  -- a list that is in that order is the closing lines
  pub only_closing_order : {cs : List Line} → ClosingOrder lines (tree b lines) cs → cs ≡ closing lines (tree b lines)
  only_closing_order x = closing_order_unique x closing_lines_in_order
