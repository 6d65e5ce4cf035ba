-- Marks in the tree and out of it: b steps enter the b marks of the book. Assumes nothing.
use Prim.Native.Nat.{ℕ, zero, suc, ◌+◌, ◌≤◌, ◌<◌}
use native.Mathlib.Omega.{arith}
use mathlib.Core.Path.{◌≡◌, refl, sym, ◌∙◌, ap}
use mathlib.Core.Logic.{◌⊎◌, inl, inr}
use mathlib.Core.List.Memᴰ
use mathlib.Core.List.{List, [], ◌∷◌, Memᴰ}
use mathlib.Core.Option.{Option, none, some}
use native.Mathlib.Decide.{ℕ_discrete}
use lib.ListN.{length}
use Rattle.network.specs.Standing.{Line}
use Rattle.network.specs.Sound.{Placed}
use Rattle.network.specs.Tree.{Entry, Tree, distance, grow, up_to, marks, tree}
use Rattle.network.proofs.Grown.{After, new, old, after, Grown, is_new, grown, Stepped, line, root, stop, stepped}
use Rattle.network.specs.Walk.{Ends, along, against}

-- ---- b steps are enough

abbrev pub out_bit : Option ℕ → ℕ
out_bit none = 1
out_bit (some d) = 0

-- how many of the marks 1 to b are not in the tree
pub outs : Tree → ℕ → ℕ
outs es zero = 0
outs es (suc b) = out_bit (distance es (suc b)) + outs es b

pub outs_nil : (b : ℕ) → outs [] b ≡ b
unfolding outs distance
outs_nil zero = refl
outs_nil (suc b) = omega (arith, outs_nil b)

pub outs_above : (e : Entry) (es : Tree) (b : ℕ) → b < e.mark → outs (e ∷ es) b ≡ outs es b
unfolding outs
outs_above e es zero h = refl
outs_above e es (suc b) h = go (after e es (suc b)) (outs_above e es b)
  where
    go : After e es (suc b) → (b < e.mark → outs (e ∷ es) b ≡ outs es b)
        → out_bit (distance (e ∷ es) (suc b)) + outs (e ∷ es) b ≡ out_bit (distance es (suc b)) + outs es b
    go (new x y) ih = absurd (omega (arith, x))
    go (old x y) ih = rw y (omega (arith, ih (omega arith)))

pub outs_cons : (e : Entry) (es : Tree) (b : ℕ) → distance es e.mark ≡ none → 0 < e.mark → e.mark ≤ b
    → outs es b ≡ suc (outs (e ∷ es) b)
unfolding outs
outs_cons e es zero out h k = absurd (omega arith)
outs_cons e es (suc b) out h k = go (after e es (suc b)) (outs_cons e es b out h)
  where
    go : After e es (suc b) → (e.mark ≤ b → outs es b ≡ suc (outs (e ∷ es) b))
        → out_bit (distance es (suc b)) + outs es b ≡ suc (out_bit (distance (e ∷ es) (suc b)) + outs (e ∷ es) b)
    go (new x y) ih = rw (y, ap (distance es) (sym x) ∙ out) (omega (arith, outs_above e es b (omega (arith, x))))
    go (old x y) ih = rw y (omega (arith, ih (omega arith)))

pub outs_zero : (es : Tree) (b : ℕ) → outs es b ≡ 0 → (m : ℕ) → 0 < m → m ≤ b → distance es m ≡ none → ⊥
unfolding outs
outs_zero es zero z m h k out = omega arith
outs_zero es (suc b) z m h k out = go (ℕ_discrete m (suc b)) (outs_zero es b)
  where
    go : Dec (m ≡ suc b) → (outs es b ≡ 0 → (m : ℕ) → 0 < m → m ≤ b → distance es m ≡ none → ⊥) → ⊥
    go (yes e) ih = omega (arith, ap out_bit (ap (distance es) (sym e) ∙ out))
    go (no n) ih = ih (omega arith) m h (omega arith) out

pub all_in : (es : Tree) (b : ℕ) → ((m : ℕ) → 0 < m → m ≤ b → distance es m ≡ none → ⊥) → outs es b ≡ 0
unfolding outs
all_in es zero f = refl
all_in es (suc b) f = go (distance es (suc b)) refl (all_in es b (λ m h k. f m h (omega arith)))
  where
    go : (a : Option ℕ) → distance es (suc b) ≡ a → outs es b ≡ 0 → out_bit a + outs es b ≡ 0
    go none p h = absurd (f (suc b) (omega arith) (omega arith) p)
    go (some d) p h = omega (arith, h)

-- the marks 1 to b
pub in_up_to : (b : ℕ) (ms : List ℕ) (m : ℕ) → ((0 < m) × (m ≤ b)) ⊎ Memᴰ m ms → Memᴰ m (up_to b ms)
unfolding up_to
in_up_to zero ms m (inl h) = absurd (omega arith)
in_up_to zero ms m (inr i) = i
in_up_to (suc b) ms m (inl h) = in_up_to b (suc b ∷ ms) m (go (ℕ_discrete m (suc b)))
  where
    go : Dec (m ≡ suc b) → ((0 < m) × (m ≤ b)) ⊎ Memᴰ m (suc b ∷ ms)
    go (yes e) = inr (Memᴰ.head e)
    go (no n) = inl (omega arith)
in_up_to (suc b) ms m (inr i) = in_up_to b (suc b ∷ ms) m (inr (Memᴰ.tail i))

pub of_up_to : (b : ℕ) (ms : List ℕ) (m : ℕ) → Memᴰ m (up_to b ms) → ((0 < m) × (m ≤ b)) ⊎ Memᴰ m ms
unfolding up_to
of_up_to zero ms m i = inr i
of_up_to (suc b) ms m i = go (of_up_to b (suc b ∷ ms) m i)
  where
    go : ((0 < m) × (m ≤ b)) ⊎ Memᴰ m (suc b ∷ ms) → ((0 < m) × (m ≤ suc b)) ⊎ Memᴰ m ms
    go (inl h) = inl (omega arith)
    go (inr (Memᴰ.head e)) = inl (omega (arith, e))
    go (inr (Memᴰ.tail j)) = inr j

pub in_marks : (b m : ℕ) → 0 < m → m ≤ b → Memᴰ m (marks b)
unfolding marks
in_marks b m h k = in_up_to b [] m (inl (h, k))

pub of_marks : (b m : ℕ) → Memᴰ m (marks b) → (0 < m) × (m ≤ b)
unfolding marks
of_marks b m i = go (of_up_to b [] m i)
  where
    go : ((0 < m) × (m ≤ b)) ⊎ Memᴰ m [] → (0 < m) × (m ≤ b)
    go (inl h) = h
    go (inr j) = absurd (Memᴰ.not-nil j)

pub placed_end : (b : ℕ) (l : Line) (u v : ℕ) → Placed b l → Ends l u v → (0 < v) × (v ≤ b)
placed_end b l u v p (along x y) = omega (arith, x, y)
placed_end b l u v p (against x y) = omega (arith, x, y)

module _ (b : ℕ) (lines : List Line) (placed : (l : Line) → Memᴰ l lines → Placed b l) where
  -- one mark enters at each of the b steps
  pub one_each : (k : ℕ) → k ≤ b → (outs (grow lines (marks b) k) b + k ≡ b) × (length (grow lines (marks b) k) ≡ k)
  unfolding grow
  one_each zero h = (omega (arith, outs_nil b), refl)
  one_each (suc k) h = let ih = one_each k (omega arith) in go ih.0 ih.1 (stepped lines (marks b) (grow lines (marks b) k))
    where
      es : Tree
      es = grow lines (marks b) k

      go : {es' : Tree} → outs es b + k ≡ b → length es ≡ k → Stepped lines (marks b) es es'
          → (outs es' b + suc k ≡ b) × (length es' ≡ suc k)
      go i j (line {e = e} x) =
          let v = placed_end b x.l x.sc.near x.sc.away (placed x.l x.is_line) x.sc.ends in
          (omega (arith, i, outs_cons e es b (is_new x) (omega (arith, v.0, x.its_mark)) (omega (arith, v.1, x.its_mark))), ap suc j)
      go i j (root {e = e} x m) =
          let v = of_marks b e.mark m in
          (omega (arith, i, outs_cons e es b x.out v.0 v.1), ap suc j)
      go i j (stop d f) = absurd (omega (arith, i, all_in es b (λ m p q. f m (in_marks b m p q))))

  -- so in the end every mark is in the tree
  pub all_marks : (m : ℕ) → 0 < m → m ≤ b → distance (tree b lines) m ≡ none → ⊥
  unfolding tree
  all_marks m h k = outs_zero (grow lines (marks b) b) b (omega (arith, (one_each b (omega arith)).0)) m h k

  pub size : length (tree b lines) ≡ b
  unfolding tree
  size = (one_each b (omega arith)).1

  pub grows : Grown lines (tree b lines)
  unfolding tree
  grows = grown lines (marks b) b
