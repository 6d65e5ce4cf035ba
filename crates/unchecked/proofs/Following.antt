-- The ways of the tree as the arrays hold them: one line of a way, and where two ways meet.
-- Document 01: "A mark's way to its root is followed line by line, and the distance falls at each step." Assumes nothing.
use Prim.Native.Nat.{ℕ, ◌+◌, ◌-◌, ◌/◌, ◌%◌, ◌≤◌, ◌<◌}
use native.Mathlib.Omega.{arith}
use mathlib.Core.Path.{◌≡◌, refl, sym, ◌∙◌, ap}
use mathlib.Core.Logic.{◌⊎◌, inl, inr}
use mathlib.Core.Bool.{true, false, ◌||◌}
use mathlib.Core.List.{List, [], ◌∷◌, Memᴰ}
use mathlib.Core.Option.{none, some}
use lib.ListN.{get_or}
use lib.Dec.{eqb}
use Rattle.book.specs.Limits.{least_length}
use Rattle.network.specs.Standing.{Line}
use Rattle.network.specs.Sound as so
use Rattle.network.specs.Tree.{Entry, Tree, distance, tree}
use Rattle.network.proofs.Grown.{After, new, old, after, ends_to, Grown, tree_line}
use Rattle.network.proofs.Shortest.{same, never}
use Rattle.network.proofs.Marks.{grows}
use Rattle.network.proofs.ClosingLines.{has_distance}
use Rattle.network.proofs.Subgraph.{not_in}
use Rattle.loops.specs.Crossed.{on_way}
use Rattle.loops.proofs.Ways.{one_end, onward, root_way, beyond}
use Rattle.chains.specs.Chains.{Half, flip, mark_of, halves, number_limit}
use Rattle.chains.proofs.Halves.{half_ends, half_flip, half_ok, half_low_end, half_no, told_mark}
use Rattle.search.specs.Front.{came, By, Key}
use Rattle.search.specs.Front as f
use Rattle.search.proofs.Enter.{came_new, came_old}
use Rattle.chains.specs.Listed.{Listed}
use Rattle.tree.specs.Plant.{Holding}
use Rattle.tree.proofs.Entries.{placed}
use Rattle.unchecked.specs.Ways.{IsMark, TreeHeld, line_in, nearer_mark}

-- the tables of the lines and the tree's keys hold the tree
pub tree_held : {n q : ℕ} {lines : List Line} {ends best order : List ℕ} → Listed lines n q ends
    → Holding (tree (n - 1) lines) best order ends → TreeHeld n lines ends best
tree_held li ho = record { rising = li.rising; sound = li.sound; few = li.few; told = li.told; keyed = ho.keyed }

-- the mark that a half leads to
pub held_mark : {n : ℕ} {lines : List Line} {ends best : List ℕ} → TreeHeld n lines ends best → (l : Line) (u v h : ℕ) → Memᴰ l lines
    → Half l u v h → mark_of ends h ≡ v
held_mark {ends = ends} t l u v h i hf = told_mark ends (t.sound l i) t.few hf (t.told l u v h i hf)

-- the distance in the key of mark m
abbrev pub distance_at : List ℕ → ℕ → ℕ
distance_at best m = get_or best m 0 / halves

-- the entry of a mark has the line by which it came in
pub entry_came : (es : Tree) (m d : ℕ) → distance es m ≡ some d → (x : Entry) × Memᴰ x es × (x.mark ≡ m) × (x.by ≡ came es m)
unfolding distance
entry_came [] m d h = never h refl
entry_came (e ∷ es) m d h = go (after e es m) (entry_came es m d)
  where
    go : After e es m → (distance es m ≡ some d → (x : Entry) × Memᴰ x es × (x.mark ≡ m) × (x.by ≡ came es m))
        → (x : Entry) × Memᴰ x (e ∷ es) × (x.mark ≡ m) × (x.by ≡ came (e ∷ es) m)
    go (new p q) ih = (e, Memᴰ.head refl, p, sym (came_new e es m p))
    go (old p q) ih = let k = ih (sym q ∙ h) in (k.0, Memᴰ.tail k.1, k.2, k.3 ∙ sym (came_old e es m p))

module _ (n : ℕ) (lines : List Line) (ends best : List ℕ) (t : TreeHeld n lines ends best) where
  abbrev es : Tree
  es = tree (n - 1) lines

  -- the lines are those of a sound book
  pub book_sound : so.Sound (n - 1) lines
  book_sound = record {
    placed = placed n lines t.sound;
    apart = λ l i. (t.sound l i).apart;
    long_enough = λ l i. (t.sound l i).long;
    rising = t.rising;
  }

  -- their tree has grown by the rule
  pub grown_tree : Grown lines es
  grown_tree = grows (n - 1) lines (placed n lines t.sound)

  -- every mark has a distance and a key
  pub key_at : (m : ℕ) → IsMark n m → (d : ℕ) × (distance es m ≡ some d) × Key es best ends m d
  key_at m i = let h = has_distance (n - 1) lines book_sound m i.0 (omega (arith, i.1)) in (h.0, h.1, t.keyed m h.0 h.1)

  -- ---- one line of a way

  -- the mark m came in by the line l from the mark u, which is nearer by at least the least length of a line; its way is l and the way of
  -- u, and l is on the way of no mark that is nearer than m
  pub record Step (m : ℕ) : Type 0 where
    pub l : Line
    pub u : ℕ
    pub number : line_in best m ≡ l.number
    pub small : l.number < number_limit
    pub nearer : nearer_mark ends best m ≡ u
    pub u_is : IsMark n u
    pub falls : distance_at best u + least_length ≤ distance_at best m
    pub way : (j : ℕ) → on_way es j m ≡ (eqb l.number j || on_way es j u)
    pub clear : (v : ℕ) → IsMark n v → get_or best v 0 < get_or best m 0 → on_way es l.number v ≡ false

  -- every mark but a root is so
  pub step_at : (m : ℕ) → IsMark n m → 0 < get_or best m 0 → Step m
  step_at m im low = go (key_at m im)
    where
      go : (d : ℕ) × (distance es m ≡ some d) × Key es best ends m d → Step m
      go (d, at, ky) = by ky.by (entry_came es m d at)
        where
          by : By es ends m d ky.h → (x : Entry) × Memᴰ x es × (x.mark ≡ m) × (x.by ≡ came es m) → Step m
          by (f.root c a b) e = absurd (omega (arith, ky.key))
          by (f.line l u du c hf lo tp i s) (x, x_in, x_mark, x_by) = record {
            l = l;
            u = u;
            number = omega (arith, ky.key, ky.low, half_no hf);
            small = (t.sound l is_line).number;
            nearer = ap (λ (h : ℕ). mark_of ends (flip h)) its_half ∙ tp;
            u_is = u_is;
            falls = omega (arith, ky.key, ku.2.key, ku.2.low, s, du_is, (t.sound l is_line).long);
            way = way;
            clear = clear;
          }
            where
              its_line : x.by ≡ some l
              its_line = x_by ∙ c

              is_line : Memᴰ l lines
              is_line = tree_line lines grown_tree x x_in l its_line

              its_half : get_or best m 0 % halves ≡ ky.h
              its_half = omega (arith, ky.key, ky.low)

              u_is : IsMark n u
              u_is = (half_low_end (t.sound l is_line) (half_flip hf), (half_ok (t.sound l is_line) hf).0)

              ku : (e : ℕ) × (distance es u ≡ some e) × Key es best ends u e
              ku = key_at u u_is

              du_is : ku.0 ≡ du
              du_is = same ku.1 i

              way : (j : ℕ) → on_way es j m ≡ (eqb l.number j || on_way es j u)
              way j =
                  let w = onward lines t.rising (λ k z. (t.sound k z).apart) grown_tree x x_in l its_line j in
                  let is : w.nearer ≡ u = one_end l w.nearer u m (t.sound l is_line).apart (ends_to x_mark w.ends)
                  (half_ends hf) in
                  ap (on_way es j) (sym x_mark) ∙ w.way ∙ ap (λ (z : ℕ). eqb l.number j || on_way es j z) is

              clear : (v : ℕ) → IsMark n v → get_or best v 0 < get_or best m 0 → on_way es l.number v ≡ false
              clear v iv lt = not_in (on_way es l.number v) (λ on. no (key_at v iv) on)
                where
                  no : (e : ℕ) × (distance es v ≡ some e) × Key es best ends v e → on_way es l.number v ≡ true → ⊥
                  no (e, v_at, kv) on =
                      hit (beyond lines t.rising (λ k z. (t.sound k z).apart)
                      (λ k z. omega (arith, (t.sound k z).long)) grown_tree l x x_in its_line d (ap (distance es) x_mark ∙ at) v e v_at on)
                    where
                      hit : (v ≡ x.mark) ⊎ (d < e) → ⊥
                      hit (inl z) = omega (arith, ap (λ (k : ℕ). get_or best k 0) (z ∙ x_mark))
                      hit (inr z) = omega (arith, kv.key, ky.key, ky.low)

  -- ---- where two ways meet

  -- marks of one key are one mark, or both roots: from here on the ways are the same
  pub meet : (a b : ℕ) → IsMark n a → IsMark n b → get_or best a 0 ≡ get_or best b 0 → (j : ℕ) → on_way es j a ≡ on_way es j b
  meet a b ia ib e j = go (key_at a ia) (key_at b ib)
    where
      root_of : (m d : ℕ) → distance es m ≡ some d → came es m ≡ none → on_way es j m ≡ false
      root_of m d h c =
          let x = entry_came es m d h in
          ap (on_way es j) (sym x.2) ∙ root_way lines t.rising (λ k z. (t.sound k z).apart) grown_tree x.0 x.1 (x.3 ∙ c) j

      stands : (m d : ℕ) → distance es m ≡ some d → (l : Line) → came es m ≡ some l → Memᴰ l lines
      stands m d h l c = let x = entry_came es m d h in tree_line lines grown_tree x.0 x.1 l (x.3 ∙ c)

      go : (d : ℕ) × (distance es a ≡ some d) × Key es best ends a d → (d : ℕ) × (distance es b ≡ some d) × Key es best ends b d
          → on_way es j a ≡ on_way es j b
      go (d, h, ka) (d', h', kb) = by ka.by kb.by
        where
          one_half : ka.h ≡ kb.h
          one_half = omega (arith, ka.key, kb.key, ka.low, kb.low)

          by : By es ends a d ka.h → By es ends b d' kb.h → on_way es j a ≡ on_way es j b
          by (f.root c x y) (f.root c' x' y') = root_of a d h c ∙ sym (root_of b d' h' c')
          by (f.root c x y) (f.line l u du c' hf lo tp i s) =
              absurd (omega (arith, half_no hf, (t.sound l (stands b d' h' l c')).numbered))
          by (f.line l u du c hf lo tp i s) (f.root c' x y) = absurd (omega (arith, half_no hf, (t.sound l (stands a d h l c)).numbered))
          by (f.line l u du c hf lo tp i s) (f.line l' u' du' c' hf' lo' tp' i' s') =
              ap (on_way es j) (sym (held_mark t l u a ka.h (stands a d h l c) hf) ∙ ap (λ (z : ℕ). mark_of ends z) one_half
              ∙ held_mark t l' u' b kb.h (stands b d' h' l' c') hf')
