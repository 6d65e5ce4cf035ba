-- The tree joins the two ends of each closing line. Assumes nothing.
use Prim.Native.Nat.{ℕ}
use mathlib.Core.Path.{◌≡◌, refl, sym, ◌∙◌, ap, subst, subst₂}
use mathlib.Core.Logic.{◌⊎◌, inl, inr}
use mathlib.Core.List.Memᴰ
use mathlib.Core.List.{List, [], ◌∷◌, ◌++◌, Memᴰ}
use mathlib.Core.Option.{Option, none, some}
use Rattle.network.specs.Standing.{Line}
use Rattle.network.specs.Tree.{Entry, Tree, distance}
use Rattle.network.specs.Closing.{closers_at, just_lines, closing}
use Rattle.network.specs.Walk.{Pass, Walk, here, Ends, along, against}
use Rattle.network.proofs.Grown.{score_of_lem, After, new, old, after, ends_to, ByLine, Grown, empty, by_line, by_root, is_new}
use Rattle.network.proofs.Shortest.{never, turn, was_out}
use Rattle.network.proofs.Closers.{InTree, closer_ends, of_closers}
use Rattle.network.proofs.Walks.{walk_append, Way, way_back, over}

-- the mark of an entry where it is a root, else the root before it
abbrev pub root_or : Option Line → ℕ → ℕ → ℕ
root_or none m r = m
root_or (some l) m r = r

-- the root of the piece that is growing
unfoldable pub root_of : Tree → ℕ
root_of [] = 0
root_of (e ∷ es) = root_or e.by e.mark (root_of es)

module _ (lines ls : List Line) where
  -- the lines ls hold the tree's lines
  abbrev pub Holds : Tree → Type 0
  Holds es = (l : Line) → InTree es l → Memᴰ l ls

  -- and so those of the tree before its last entry
  pub fewer : (e : Entry) (es : Tree) → Holds (e ∷ es) → Holds es
  fewer e es h l (x, m, p) = h l (x, Memᴰ.tail m, p)

  -- a mark from which a line leads out of the tree is joined with the root of the piece that is growing
  pub to_root : {es : Tree} → Grown lines es → Holds es → (l : Line) (u v d : ℕ) → Memᴰ l lines → Ends l u v
      → distance es u ≡ some d → distance es v ≡ none
      → Way ls (root_of es) u
  unfolding root_of distance
  to_root empty h l u v d m j p q = never p refl
  to_root (by_line {e = e} {es = es} g b) h l u v d m j p q =
      go (after e es u) (to_root g (fewer e es h) l u v d m j)
      (to_root g (fewer e es h) b.l b.sc.near b.sc.away b.sc.d b.is_line b.sc.ends b.sc.is_in b.sc.is_out)
    where
      root_same : root_of es ≡ root_or e.by e.mark (root_of es)
      root_same = sym (ap (λ (o : Option Line). root_or o e.mark (root_of es)) b.its)

      go : After e es u → (distance es u ≡ some d → distance es v ≡ none → Way ls (root_of es) u) → Way ls (root_of es) b.sc.near
          → Way ls (root_or e.by e.mark (root_of es)) u
      go (new x y) ih near =
          let o =
          over b.l u b.sc.near (h b.l (e, Memᴰ.head refl, b.its))
          (turn (ends_to (sym b.its_mark ∙ x) b.sc.ends)) in
          subst (λ (r : ℕ). Way ls r u) root_same (o.0 ++ near.0, walk_append o.1 near.1)
      go (old x y) ih near = subst (λ (r : ℕ). Way ls r u) root_same (ih (sym y ∙ p) (was_out e es v q))
  to_root (by_root {e = e} {es = es} g b) h l u v d m j p q = go (after e es u)
    where
      go : After e es u → Way ls (root_or e.by e.mark (root_of es)) u
      go (new x y) = ([], here (sym x ∙ sym (ap (λ (o : Option Line). root_or o e.mark (root_of es)) b.its)))
      go (old x y) = never (score_of_lem es l u v d j (sym y ∙ p) (was_out e es v q)) (b.done l m)

  -- the ends of a line that closes at an entry
  pub joined_new : (e : Entry) (es : Tree) → Grown lines es → (b : ByLine lines es e) → Holds (e ∷ es) → (c : Line)
      → Memᴰ c (just_lines (closers_at es e lines))
      → Way ls c.from c.to
  joined_new e es g b h c i =
      let w = of_closers es e lines c i in
      let k = closer_ends es e lines c w in
      let here_way = to_root g (fewer e es h) c k.0 e.mark k.1 w.is_line k.2 k.3 (is_new b) in
      let there =
      to_root g (fewer e es h) b.l b.sc.near b.sc.away b.sc.d b.is_line b.sc.ends b.sc.is_in b.sc.is_out in
      let o =
      over b.l e.mark b.sc.near (h b.l (e, Memᴰ.head refl, b.its))
      (turn (ends_to (sym b.its_mark) b.sc.ends)) in
      let back = way_back here_way.1 in
      let all : Walk ls k.0 e.mark (o.0 ++ (there.0 ++ back.0)) = walk_append o.1 (walk_append there.1 back.1) in
      go k.0 k.2 all
    where
      go : (u : ℕ) {w : List Pass} → Ends c u e.mark → Walk ls u e.mark w → Way ls c.from c.to
      go u {w = w} (along p q) x = (w, subst₂ (λ (a b : ℕ). Walk ls a b w) (sym p) (sym q) x)
      go u {w = w} (against p q) x = let y = way_back x in (y.0, subst₂ (λ (a b : ℕ). Walk ls a b y.0) (sym q) (sym p) y.1)

  -- so the tree's lines join the two ends of each closing line
  pub joined : {es : Tree} → Grown lines es → Holds es → (c : Line) → Memᴰ c (closing lines es) → Way ls c.from c.to
  unfolding closing
  joined empty h c m = absurd (Memᴰ.not-nil m)
  joined (by_line {e = e} {es = es} g b) h c m = go (joined g (fewer e es h) c) (Memᴰ.append_cases (closing lines es) m)
    where
      go : (Memᴰ c (closing lines es) → Way ls c.from c.to)
          → Memᴰ c (closing lines es) ⊎ Memᴰ c (just_lines (closers_at es e lines)) → Way ls c.from c.to
      go ih (inl i) = ih i
      go ih (inr i) = joined_new e es g b h c i
  joined (by_root {e = e} {es = es} g b) h c m = go (joined g (fewer e es h) c) (Memᴰ.append_cases (closing lines es) m)
    where
      go : (Memᴰ c (closing lines es) → Way ls c.from c.to)
          → Memᴰ c (closing lines es) ⊎ Memᴰ c (just_lines (closers_at es e lines)) → Way ls c.from c.to
      go ih (inl i) = ih i
      go ih (inr i) = let w = of_closers es e lines c i in never w.its_score (b.done c w.is_line)
