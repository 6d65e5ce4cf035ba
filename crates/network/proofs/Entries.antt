-- What enters the tree: each mark once, by a standing line that leads nearer to the root or as a root. Assumes nothing.
use Prim.Native.Nat.{ℕ, ◌+◌, ◌≤◌, ◌<◌}
use native.Mathlib.Omega.{arith}
use mathlib.Core.Path.{◌≡◌, refl, sym, ◌∙◌, ap, subst}
use mathlib.Core.List.Memᴰ
use mathlib.Core.List.{List, ◌∷◌, Memᴰ}
use mathlib.Core.Option.{Option, none, some, some-injective, none-ne-some}
use lib.ListN.{length}
use borrow.Author.Tests.{eq-eqb, ne_eqb}
use Rattle.book.specs.Limits.{least_length}
use Rattle.network.specs.Standing.{Line}
use Rattle.network.specs.Sound.{Sound}
use Rattle.network.specs.Tree.{Entry, Tree, distance, tree, pieces, tree_lines}
use Rattle.network.specs.Growth.{LeadsNearer, times_entered}
use Rattle.network.proofs.Grown.{After, new, old, after, keeps, ends_to, by_of, Grown, empty, by_line, by_root, is_new, tree_line}
use Rattle.network.proofs.Count.{tree_and_roots}
use Rattle.network.proofs.Marks.{out_bit, all_marks, size, grows}
use Rattle.network.proofs.Subgraph.{of_tree_lines}

-- ---- how often a mark enters

times_step : (e : Entry) (es : Tree) (m : ℕ) → distance es e.mark ≡ none → times_entered m es + out_bit (distance es m) ≡ 1
    → times_entered m (e ∷ es) + out_bit (distance (e ∷ es) m) ≡ 1
unfolding times_entered
times_step e es m out ih = go (after e es m)
  where
    go : After e es m → times_entered m (e ∷ es) + out_bit (distance (e ∷ es) m) ≡ 1
    go (new p q) = rw (eq-eqb e.mark m p, q) (omega (arith, ih, ap out_bit (ap (distance es) (sym p) ∙ out)))
    go (old p q) = rw (ne_eqb e.mark m p, q) ih

times : {lines : List Line} {es : Tree} → Grown lines es → (m : ℕ) → times_entered m es + out_bit (distance es m) ≡ 1
unfolding times_entered distance
times empty m = refl
times (by_line {e = e} {es = es} g b) m = times_step e es m (is_new b) (times g m)
times (by_root {e = e} {es = es} g b) m = times_step e es m b.out (times g m)

in_bit : (o : Option ℕ) → (o ≡ none → ⊥) → out_bit o ≡ 0
in_bit none f = absurd (f refl)
in_bit (some d) f = refl

-- ---- what an entry says of its mark holds in the whole tree

leads_step : (e : Entry) (es : Tree) → distance es e.mark ≡ none → (x : Entry) (l : Line) → LeadsNearer es x l → LeadsNearer (e ∷ es) x l
leads_step e es out x l w = record {
  nearer = w.nearer;
  its_distance = w.its_distance;
  ends = w.ends;
  is_in = keeps e es w.nearer w.its_distance out w.is_in;
  sum = w.sum;
}

leads : {lines : List Line} {es : Tree} → Grown lines es → (e : Entry) → Memᴰ e es → (l : Line) → e.by ≡ some l → LeadsNearer es e l
leads empty e m l q = absurd (Memᴰ.not-nil m)
leads (by_line {e = e₀} {es = es} g b) e (Memᴰ.head p) l q =
    let l_own : b.l ≡ l = some-injective b.l l (sym (by_of p ∙ b.its) ∙ q) in
    subst (λ (x : Entry). LeadsNearer (e₀ ∷ es) x l) (sym p) (subst (λ (k : Line). LeadsNearer (e₀ ∷ es) e₀ k) l_own (record {
      nearer = b.sc.near;
      its_distance = b.sc.d;
      ends = ends_to (sym b.its_mark) b.sc.ends;
      is_in = keeps e₀ es b.sc.near b.sc.d (is_new b) b.sc.is_in;
      sum = b.sc.sum;
    }))
leads (by_line {e = e₀} {es = es} g b) e (Memᴰ.tail m) l q = leads_step e₀ es (is_new b) e l (leads g e m l q)
leads (by_root {e = e₀} {es = es} g b) e (Memᴰ.head p) l q = absurd (none-ne-some l (sym b.its ∙ sym (by_of p) ∙ q))
leads (by_root {e = e₀} {es = es} g b) e (Memᴰ.tail m) l q = leads_step e₀ es b.out e l (leads g e m l q)

-- ---- the theorems

module _ (b : ℕ) (lines : List Line) (sound : Sound b lines) where
  -- every mark enters, and once only
  pub each_mark_enters_once : (m : ℕ) → 0 < m → m ≤ b → times_entered m (tree b lines) ≡ 1
  each_mark_enters_once m low high =
      omega (
        arith,
        times (grows b lines sound.placed) m,
        in_bit (distance (tree b lines) m)
            (all_marks b lines sound.placed m low high),
      )

  -- a tree line is a standing line
  pub tree_line_stands : (l : Line) → Memᴰ l (tree_lines (tree b lines)) → Memᴰ l lines
  tree_line_stands l m = let t = of_tree_lines (tree b lines) l m in tree_line lines (grows b lines sound.placed) t.0 t.1 l t.2

  -- a mark's tree line leads to a mark that is nearer by just its length, and so by at least the least length
  pub tree_line_leads_nearer : (e : Entry) → Memᴰ e (tree b lines) → (l : Line) → e.by ≡ some l
      → LeadsNearer (tree b lines) e l × (least_length ≤ l.length)
  tree_line_leads_nearer e m l q =
      (leads (grows b lines sound.placed) e m l q, sound.long_enough l (tree_line lines (grows b lines sound.placed) e m l q))

  -- tree lines are marks less pieces
  pub tree_lines_count : length (tree_lines (tree b lines)) + pieces (tree b lines) ≡ b
  tree_lines_count = tree_and_roots (tree b lines) ∙ size b lines sound.placed
