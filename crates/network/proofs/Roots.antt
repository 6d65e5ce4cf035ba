-- The roots: as many as pieces, each the lowest mark that it is joined with. Assumes nothing.
use Prim.Native.Nat.{ℕ, zero, suc, ◌+◌, ◌≤◌, ◌<◌}
use native.Mathlib.Omega.{arith}
use native.Mathlib.Decide.{ℕ_discrete, dec_lt}
use mathlib.Core.Path.{◌≡◌, refl, sym, ◌∙◌, ap, subst}
use mathlib.Core.Bool.{Bool, true, false, not, false≢true}
use mathlib.Core.List.{List, [], ◌∷◌, ◌++◌}
use mathlib.Core.Option.{Option, none, some}
use borrow.Author.Tests.{eq-eqb, ne_eqb, not-false}
use Rattle.network.specs.Standing.{Line}
use Rattle.network.specs.Sound.{Sound}
use Rattle.network.specs.Walk.{Pass, Walk, here}
use Rattle.network.specs.Tree.{Entry, entry, Tree, Candidate, distance, far, pieces}
use Rattle.network.specs.Piece.{root_if, root_at, bit, count_to}
use Rattle.network.specs.Growth.{EntersNext, Growth, nothing, enters, next_root}
use Rattle.network.proofs.Grown.{Scored, scored, After, new, old, after, ends_to}
use Rattle.network.proofs.Shortest.{never, turn, was_out, shortest_of_all}
use Rattle.network.proofs.Descent.{clash}
use Rattle.network.proofs.Marks.{placed_end}
use Rattle.network.proofs.Parallel.{growth_grown}
use Rattle.network.proofs.Walks.{Way, walk_append, over}

-- ---- counting marks

count_same : (f g : ℕ → Bool) (b : ℕ) → ((m : ℕ) → m ≤ b → f m ≡ g m) → count_to f b ≡ count_to g b
unfolding count_to
count_same f g zero h = refl
count_same f g (suc b) h = rw (h (suc b) (omega arith)) (ap (λ (n : ℕ). bit (g (suc b)) + n) (count_same f g b (λ m le. h m (omega arith))))

-- a test that holds nowhere
pub count_none : (b : ℕ) → count_to (λ m. false) b ≡ 0
unfolding count_to
count_none zero = refl
count_none (suc b) = omega (arith, count_none b)

-- two tests that differ at one mark only
pub count_but_one : (f g : ℕ → Bool) (k : ℕ) → ((m : ℕ) → (m ≡ k → ⊥) → f m ≡ g m) → g k ≡ false → (b : ℕ) → 0 < k → k ≤ b
    → count_to f b ≡ bit (f k) + count_to g b
unfolding count_to
count_but_one f g k h z zero low high = absurd (omega arith)
count_but_one f g k h z (suc b) low high = go (ℕ_discrete (suc b) k) (count_but_one f g k h z b low)
  where
    go : Dec (suc b ≡ k) → (k ≤ b → count_to f b ≡ bit (f k) + count_to g b)
        → bit (f (suc b)) + count_to f b ≡ bit (f k) + (bit (g (suc b)) + count_to g b)
    go (yes e) ih = rw (e, z) (omega (arith, count_same f g b (λ m le. h m (λ q. omega (arith, q, e)))))
    go (no n) ih = rw (h (suc b) n) (omega (arith, ih (omega arith)))

-- a mark passes a test or its opposite
pub count_not : (f : ℕ → Bool) (b : ℕ) → count_to f b + count_to (λ m. not (f m)) b ≡ b
unfolding count_to
count_not f zero = refl
count_not f (suc b) = go (f (suc b)) (count_not f b)
  where
    go : (t : Bool) → count_to f b + count_to (λ m. not (f m)) b ≡ b
        → bit t + count_to f b + (bit (not t) + count_to (λ m. not (f m)) b) ≡ suc b
    go true ih = omega arith
    go false ih = omega arith

-- a test that holds nowhere where another does not
count_not_more : (f g : ℕ → Bool) (b : ℕ) → ((m : ℕ) → 0 < m → m ≤ b → f m ≡ true → g m ≡ false → ⊥) → count_to f b ≤ count_to g b
unfolding count_to
count_not_more f g zero h = omega arith
count_not_more f g (suc b) h = go (f (suc b)) (g (suc b)) refl refl (count_not_more f g b (λ m low le. h m low (omega arith)))
  where
    go : (s t : Bool) → f (suc b) ≡ s → g (suc b) ≡ t → count_to f b ≤ count_to g b → bit s + count_to f b ≤ bit t + count_to g b
    go true true p q ih = omega arith
    go true false p q ih = absurd (h (suc b) (omega arith) (omega arith) p q)
    go false true p q ih = omega arith
    go false false p q ih = omega arith

-- a test that holds where another does not, at one mark at most
pub count_one_more : (f g : ℕ → Bool) (b : ℕ)
    → ((m n : ℕ) → 0 < m → m < n → n ≤ b → f m ≡ true → g m ≡ false → f n ≡ true → g n ≡ false → ⊥) → count_to f b ≤ suc (count_to g b)
unfolding count_to
count_one_more f g zero h = omega arith
count_one_more f g (suc b) h = go (f (suc b)) (g (suc b)) refl refl (count_one_more f g b (λ m n low lt le. h m n low lt (omega arith)))
  where
    go : (s t : Bool) → f (suc b) ≡ s → g (suc b) ≡ t → count_to f b ≤ suc (count_to g b)
        → bit s + count_to f b ≤ suc (bit t + count_to g b)
    go true true p q ih = omega arith
    go true false p q ih = omega (arith, count_not_more f g b (λ m low le x y. h m (suc b) low (omega arith) (omega arith) x y p q))
    go false true p q ih = omega arith
    go false false p q ih = omega arith

-- two tests that both hold at one mark at most
pub count_both : (f g : ℕ → Bool) (b : ℕ)
    → ((m n : ℕ) → 0 < m → m < n → n ≤ b → f m ≡ true → g m ≡ true → f n ≡ true → g n ≡ true → ⊥) → count_to f b + count_to g b ≤ suc b
count_both f g b h =
    omega (
      arith,
      count_not g b,
      count_one_more f (λ m. not (g m)) b (λ m n low lt le x y z t. h m n low lt le x (not-false (g m) y) z (not-false (g n) t)),
    )

-- ---- roots

root_new : (e : Entry) (es : Tree) → root_at (e ∷ es) e.mark ≡ root_if e.by
unfolding root_at
root_new e es = rw (eq-eqb e.mark e.mark refl)

root_old : (e : Entry) (es : Tree) (m : ℕ) → (e.mark ≡ m → ⊥) → root_at (e ∷ es) m ≡ root_at es m
unfolding root_at
root_old e es m d = rw (ne_eqb e.mark m d)

-- what is not in the tree is no root
root_out : (es : Tree) (m : ℕ) → distance es m ≡ none → root_at es m ≡ false
unfolding root_at
root_out [] m h = refl
root_out (e ∷ es) m h = go (after e es m) (root_out es m)
  where
    go : After e es m → (distance es m ≡ none → root_at es m ≡ false) → root_at (e ∷ es) m ≡ false
    go (new p q) ih = never q h
    go (old p q) ih = root_old e es m p ∙ ih (sym q ∙ h)

-- ---- how a tree's roots are told from the marks that entered by a line

module _ (b : ℕ) (lines : List Line) (sound : Sound b lines) where
  -- the mark that enters by a line is one of the book's, and is not in the tree
  mark_placed : {es : Tree} {c : Candidate} → EntersNext es lines c → (0 < far es c.line) × (far es c.line ≤ b)
  mark_placed {es = es} {c = c} x =
      let sc = scored es c.line c.score x.its_score in
      let p = placed_end b c.line sc.near sc.away (sound.placed c.line x.is_line) sc.ends in
      omega (arith, sc.is_far, p.0, p.1)

  mark_out : {es : Tree} {c : Candidate} → EntersNext es lines c → distance es (far es c.line) ≡ none
  mark_out {es = es} {c = c} x = let sc = scored es c.line c.score x.its_score in ap (distance es) sc.is_far ∙ sc.is_out

  -- as many roots as pieces
  count_step : (e : Entry) (es : Tree) → distance es e.mark ≡ none → 0 < e.mark → e.mark ≤ b → pieces es ≡ count_to (root_at es) b
      → bit (root_if e.by) + pieces es ≡ count_to (root_at (e ∷ es)) b
  count_step e es out low high ih =
      let c =
      count_but_one (root_at (e ∷ es)) (root_at es) e.mark (λ m d. root_old e es m (λ z. d (sym z))) (root_out es e.mark out) b
      low high in
      omega (arith, ih, c, ap bit (root_new e es))

  -- the pieces are as many as the marks 1 to b that entered as roots
  pub pieces_are_roots : {es : Tree} → Growth b lines es → pieces es ≡ count_to (root_at es) b
  unfolding pieces root_at
  pieces_are_roots nothing = sym (count_none b)
  pieces_are_roots (enters {es = es} {c = c} g x) =
      let p = mark_placed x in
      omega (arith, count_step (entry (far es c.line) c.score (some c.line)) es (mark_out x) p.0 p.1 (pieces_are_roots g))
  pieces_are_roots (next_root {es = es} {m = m} g d r) =
      omega (arith, count_step (entry m 0 none) es r.is_out r.low r.high (pieces_are_roots g))

  -- every mark that is still out is above every root
  out_above_root : {es : Tree} → Growth b lines es → (r k : ℕ) → root_at es r ≡ true → 0 < k → distance es k ≡ none → r < k
  unfolding root_at
  out_above_root nothing r k h low out = absurd (false≢true h)
  out_above_root (enters {es = es} {c = c} g x) r k h low out = go (after e es r) (λ h low out. out_above_root g r k h low out)
    where
      e : Entry
      e = entry (far es c.line) c.score (some c.line)

      go : After e es r → (root_at es r ≡ true → 0 < k → distance es k ≡ none → r < k) → r < k
      go (new p q) ih = clash h (ap (root_at (e ∷ es)) (sym p) ∙ root_new e es)
      go (old p q) ih = ih (sym (root_old e es r p) ∙ h) low (was_out e es k out)
  out_above_root (next_root {es = es} {m = m} g d n) r k h low out = go (after e es r) (λ h low out. out_above_root g r k h low out)
    where
      e : Entry
      e = entry m 0 none

      above : After e es k → m < k
      above (new p q) = never q out
      above (old p q) = pick (dec_lt k m)
        where
          pick : Dec (k < m) → m < k
          pick (yes lt) = absurd (n.lowest k low lt (sym q ∙ out))
          pick (no le) = omega (arith, p)

      go : After e es r → (root_at es r ≡ true → 0 < k → distance es k ≡ none → r < k) → r < k
      go (new p q) ih = subst (λ (z : ℕ). z < k) p (above (after e es k))
      go (old p q) ih = ih (sym (root_old e es r p) ∙ h) low (was_out e es k out)

  -- a root is joined with no lower mark
  pub root_is_lowest : {es : Tree} → Growth b lines es → (m r : ℕ) → root_at es m ≡ true → 0 < r → r < m → {w : List Pass}
      → Walk lines r m w → ⊥
  unfolding root_at
  root_is_lowest nothing m r h low lt w = false≢true h
  root_is_lowest (enters {es = es} {c = c} g x) m r h low lt w = go (after e es m) (λ h. root_is_lowest g m r h low lt w)
    where
      e : Entry
      e = entry (far es c.line) c.score (some c.line)

      go : After e es m → (root_at es m ≡ true → ⊥) → ⊥
      go (new p q) ih = clash h (ap (root_at (e ∷ es)) (sym p) ∙ root_new e es)
      go (old p q) ih = ih (sym (root_old e es m p) ∙ h)
  root_is_lowest (next_root {es = es} {m = k} g d n) m r h low lt w = go (after e es m) (λ h. root_is_lowest g m r h low lt w)
    where
      e : Entry
      e = entry k 0 none

      -- the lower mark is in the tree already, and no line leads out of it
      joined_before : (o : Option ℕ) → distance es r ≡ o → k ≡ m → ⊥
      joined_before none q p = n.lowest r low (omega (arith, p)) q
      joined_before (some dr) q p =
          let s = shortest_of_all lines (growth_grown lines sound.rising sound.apart g) d r dr q w in
          never s.1 (ap (distance es) (sym p) ∙ n.is_out)

      go : After e es m → (root_at es m ≡ true → ⊥) → ⊥
      go (new p q) ih = joined_before (distance es r) refl p
      go (old p q) ih = ih (sym (root_old e es m p) ∙ h)

  -- every mark of the tree is joined with a root that is not above it
  pub record ToRoot (es : Tree) (m : ℕ) : Type 0 where
    pub root : ℕ
    pub is_root : root_at es root ≡ true
    pub low : 0 < root
    pub not_above : root ≤ m
    pub way : Way lines root m

  still_root : (e : Entry) (es : Tree) (m : ℕ) → distance es e.mark ≡ none → ToRoot es m → ToRoot (e ∷ es) m
  still_root e es m out t = record {
    root = t.root;
    is_root = root_old e es t.root (λ z. clash t.is_root (root_out es t.root (ap (distance es) (sym z) ∙ out))) ∙ t.is_root;
    low = t.low;
    not_above = t.not_above;
    way = t.way;
  }

  -- every mark of the tree is joined with such a root
  pub to_its_root : {es : Tree} → Growth b lines es → (m d : ℕ) → distance es m ≡ some d → ToRoot es m
  unfolding distance
  to_its_root nothing m d h = never h refl
  to_its_root (enters {es = es} {c = c} g x) m d h =
      go (after e es m) (λ h. to_its_root g m d h) (to_its_root g sc.near sc.d sc.is_in)
    where
      e : Entry
      e = entry (far es c.line) c.score (some c.line)

      sc : Scored es c.line c.score
      sc = scored es c.line c.score x.its_score

      go : After e es m → (distance es m ≡ some d → ToRoot es m) → ToRoot es sc.near → ToRoot (e ∷ es) m
      go (old p q) ih near = still_root e es m (mark_out x) (ih (sym q ∙ h))
      go (new p q) ih near = still_root e es m (mark_out x) (record {
        root = near.root;
        is_root = near.is_root;
        low = near.low;
        not_above = omega (arith, p, out_above_root g near.root (far es c.line) near.is_root (mark_placed x).0 (mark_out x));
        way = let o = over c.line m sc.near x.is_line (turn (ends_to (sym sc.is_far ∙ p) sc.ends)) in
            (o.0 ++ near.way.0, walk_append o.1 near.way.1);
      })
  to_its_root (next_root {es = es} {m = k} g dn n) m d h = go (after e es m) (λ h. to_its_root g m d h)
    where
      e : Entry
      e = entry k 0 none

      go : After e es m → (distance es m ≡ some d → ToRoot es m) → ToRoot (e ∷ es) m
      go (old p q) ih = still_root e es m n.is_out (ih (sym q ∙ h))
      go (new p q) ih =
          record {
            root = m;
            is_root = ap (root_at (e ∷ es)) (sym p)
                ∙ root_new e es;
            low = omega (arith, p, n.low);
            not_above = omega arith;
            way = ([], here refl);
          }
