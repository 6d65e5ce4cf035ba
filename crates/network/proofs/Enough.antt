-- `shortest` is the shortest of all walks, with the tie rule: no hypothesis but that the lines are a book's. Assumes nothing.
use Prim.Native.Nat.{ℕ, zero, suc, ◌+◌, ◌≤◌, ◌<◌}
use native.Mathlib.Omega.{arith}
use native.Mathlib.Nat.{le_antisymm}
use mathlib.Core.Path.{◌≡◌, refl, sym, ◌∙◌, ap, ap₂}
use mathlib.Core.Logic.{◌⊎◌, inl, inr}
use mathlib.Core.List.Memᴰ
use mathlib.Core.List.{List, [], ◌∷◌, Memᴰ}
use mathlib.Core.Option.{Option, none, some}
use Rattle.network.specs.Standing.{Line}
use Rattle.network.specs.Tree.{Tree, distance, one_end, score, grow}
use Rattle.network.specs.Path.{Pass, or_zero, descend, shortest, way_length}
use Rattle.network.specs.Walk.{IsShortest, Walk, Before, equal, lower, alike}
use Rattle.network.proofs.Grown.{After, new, old, after, score_of_lem, keeps, is_new, grown, Stepped, line, root, stop, stepped}
use Rattle.network.proofs.Shortest.{same, never, shortest_of_all}
use Rattle.network.proofs.Descent.{descend_walk, tie}
use Rattle.network.specs.Sound.{Rising, Long, Placed}
use Rattle.network.proofs.Marks.{placed_end, outs, outs_nil, outs_cons, outs_zero}

-- a line with both ends in has no score
pub both_none : (es : Tree) (l : Line) → (distance es l.from ≡ none → ⊥) → (distance es l.to ≡ none → ⊥) → score es l ≡ none
unfolding score
both_none es l f t = go (distance es l.from) (distance es l.to) refl refl
  where
    go : (a b : Option ℕ) → distance es l.from ≡ a → distance es l.to ≡ b → one_end a b l.length ≡ none
    go none b p q = absurd (f p)
    go (some a) none p q = absurd (t q)
    go (some a) (some b) p q = refl

module _ (b : ℕ) (sub : List Line) (placed : (l : Line) → Memᴰ l sub → Placed b l) (long : Long sub) (r : ℕ) (low : 0 < r)
    (high : r ≤ b) where
  abbrev pub at : ℕ → Tree
  at k = grow sub (r ∷ []) k

  -- the root is in from the first step on, at 0
  pub root_in : (k : ℕ) → distance (at (suc k)) r ≡ some 0
  unfolding grow distance
  root_in zero = go (stepped sub (r ∷ []) [])
    where
      go : {es : Tree} → Stepped sub (r ∷ []) [] es → distance es r ≡ some 0
      go (line x) = never x.sc.is_in refl
      go (root {e = e} x m) = hit (after e [] r)
        where
          hit : After e [] r → distance (e ∷ []) r ≡ some 0
          hit (new p q) = q ∙ ap some x.zero_at
          hit (old p q) = absurd (p (Memᴰ.eq_of_singleton m))
      go (stop d f) = absurd (f r (Memᴰ.head refl) refl)
  root_in (suc k) = go (root_in k) (stepped sub (r ∷ []) (at (suc k)))
    where
      go : {es : Tree} → distance (at (suc k)) r ≡ some 0 → Stepped sub (r ∷ []) (at (suc k)) es → distance es r ≡ some 0
      go h (line {e = e} x) = keeps e (at (suc k)) r 0 (is_new x) h
      go h (root {e = e} x m) = keeps e (at (suc k)) r 0 x.out h
      go h (stop d f) = h

  -- and nothing else is at 0
  pub root_only : (k m : ℕ) → distance (at k) m ≡ some 0 → m ≡ r
  unfolding grow distance
  root_only zero m h = never h refl
  root_only (suc k) m h = go (root_only k m) h (stepped sub (r ∷ []) (at k))
    where
      go : {es : Tree} → (distance (at k) m ≡ some 0 → m ≡ r) → distance es m ≡ some 0 → Stepped sub (r ∷ []) (at k) es → m ≡ r
      go ih h (line {e = e} x) = hit (after e (at k) m)
        where
          hit : After e (at k) m → m ≡ r
          hit (new p q) = absurd (omega (arith, same h q, x.sc.sum, long x.l x.is_line))
          hit (old p q) = ih (sym q ∙ h)
      go ih h (root {e = e} x i) = hit (after e (at k) m)
        where
          hit : After e (at k) m → m ≡ r
          hit (new p q) = sym p ∙ Memᴰ.eq_of_singleton i
          hit (old p q) = ih (sym q ∙ h)
      go ih h (stop d f) = ih h

  abbrev pub Done : Tree → Type 0
  Done es = (k : Line) → Memᴰ k sub → score es k ≡ none

  -- after k steps the growth is done, or k marks are in
  pub progress : (k : ℕ) → k ≤ b → (Done (at k) × (distance (at k) r ≡ none → ⊥)) ⊎ (outs (at k) b + k ≡ b)
  unfolding grow
  progress zero h = inr (omega (arith, outs_nil b))
  progress (suc k) h = go (progress k (omega arith)) (stepped sub (r ∷ []) (at k))
    where
      go : {es : Tree} → (Done (at k) × (distance (at k) r ≡ none → ⊥)) ⊎ (outs (at k) b + k ≡ b) → Stepped sub (r ∷ []) (at k) es
          → (Done es × (distance es r ≡ none → ⊥)) ⊎ (outs es b + suc k ≡ b)
      go i (stop d f) = inl (d, f r (Memᴰ.head refl))
      go (inl (d, f)) (line x) =
          never (score_of_lem (at k) x.l x.sc.near x.sc.away x.sc.d x.sc.ends x.sc.is_in x.sc.is_out)
          (d x.l x.is_line)
      go (inl (d, f)) (root x m) = absurd (f (ap (distance (at k)) (sym (Memᴰ.eq_of_singleton m)) ∙ x.out))
      go (inr i) (line {e = e} x) =
          let v = placed_end b x.l x.sc.near x.sc.away (placed x.l x.is_line) x.sc.ends in
          inr (omega (arith, i, outs_cons e (at k) b (is_new x) (omega (arith, v.0, x.its_mark)) (omega (arith, v.1, x.its_mark))))
      go (inr i) (root {e = e} x m) =
          let v : e.mark ≡ r = Memᴰ.eq_of_singleton m in
          inr (omega (arith, i, outs_cons e (at k) b x.out (omega (arith, v)) (omega (arith, v))))

  pub done : Done (at b)
  done = go (progress b (omega arith))
    where
      go : (Done (at b) × (distance (at b) r ≡ none → ⊥)) ⊎ (outs (at b) b + b ≡ b) → Done (at b)
      go (inl x) = x.0
      go (inr z) = λ k m. let p = placed k m in
          both_none (at b) k (outs_zero (at b) b (omega (arith, z)) k.from p.from_low p.from_high)
          (outs_zero (at b) b (omega (arith, z)) k.to p.to_low p.to_high)

  pub at_zero : distance (at b) r ≡ some 0
  at_zero = go b low high
    where
      go : (n : ℕ) → 0 < r → r ≤ n → distance (at n) r ≡ some 0
      go zero h k = absurd (omega arith)
      go (suc n) h k = root_in n

  -- The theorem: where there is a walk from u to r at all, `shortest` is the shortest path
  pub is_shortest : Rising sub → (u : ℕ) {w : List Pass} → Walk sub r u w → IsShortest sub r u (shortest b sub u r)
  unfolding shortest
  is_shortest rising u {w = w₀} w = go (shortest_of_all sub (grown sub (r ∷ []) b) done r 0 at_zero w)
    where
      go : (du : ℕ) × (distance (at b) u ≡ some du) × (du ≤ 0 + way_length w₀)
          → IsShortest sub r u (descend sub (at b) (or_zero (distance (at b) u)) u)
      go (du, x, y) =
          let n : or_zero (distance (at b) u) ≡ du = ap or_zero x in
          let g = grown sub (r ∷ []) b in
          let d = descend_walk sub g long r (root_only b) (or_zero (distance (at b) u)) u du x (omega (arith, n)) in
          record {
            is_walk = d.0;
            least = λ v. let s = shortest_of_all sub g done r 0 at_zero v in omega (arith, d.1, s.2, same s.1 x);
            first = λ v e. tie sub g long r (root_only b) rising done at_zero (or_zero (distance (at b) u)) u du x (omega (arith, n)) v
                (e ∙ d.1);
          }

-- ---- there is only one such path

pub before_both : {p q : List Pass} → Before p q → Before q p → p ≡ q
before_both equal y = refl
before_both (lower x) (lower y) = absurd (omega arith)
before_both (lower x) (alike e y) = absurd (omega (arith, ap (λ (o : Pass). o.line.number) e))
before_both (alike e x) (lower y) = absurd (omega (arith, ap (λ (o : Pass). o.line.number) e))
before_both (alike e x) (alike e' y) = ap₂ ◌∷◌ e (before_both x y)

-- so to show that a path is the one `shortest` gives, show that it is a walk, least and first
pub shortest_unique : {sub : List Line} {r u : ℕ} {p q : List Pass} → IsShortest sub r u p → IsShortest sub r u q → p ≡ q
shortest_unique {p = p} {q = q} x y =
    let same_length : way_length p ≡ way_length q = le_antisymm (x.least y.is_walk) (y.least x.is_walk) in
    before_both (x.first y.is_walk (sym same_length)) (y.first x.is_walk same_length)
