-- Laws of `offer` and `relax`. Assumes nothing.
use Prim.Native.Nat.{ℕ, ◌+◌, ◌≤◌, ◌<◌}
use native.Mathlib.Omega.{arith}
use native.Mathlib.Decide.{ℕ_discrete}
use mathlib.Core.Path.{◌≡◌, refl, sym, ◌∙◌, ap, subst}
use mathlib.Core.Logic.{◌⊎◌, inl, inr}
use mathlib.Core.List.{List}
use lib.ListN.{get_or, length-set}
use lib.Seq.{get_or-set_same, get_or-set_other}
use Rattle.nearest.specs.Heap.{far}
use Rattle.chains.specs.Chains.{mark_of, sum_of, On, here, later}
use Rattle.chains.proofs.Halves.{on_zero, on_split}
use Rattle.search.specs.Front.{Keys, keys, Stage, Offered, kept, fell, Moved, still, moved, Relaxed}

-- ---- offer

module _ (n : ℕ) (best seg best' seg' : List ℕ) (o k : ℕ) (st : Stage n best seg) (lt : o < n) where
  pub offered_stage : Offered n (keys best seg) (keys best' seg') o k → Stage n best' seg'
  offered_stage (kept a p q) = subst (λ (x : List ℕ). Stage n x seg') (sym p) (subst (λ (y : List ℕ). Stage n best y) (sym q) st)
  offered_stage (fell a p ch) = record {
    heap = ch.heap;
    places = rw p (simp length-set st.places);
    over = λ m h. go m h (ℕ_discrete m o);
    tops = λ m h. top m h (ℕ_discrete m o);
  }
    where
      top : (m : ℕ) → m < n → Dec (m ≡ o) → get_or best' m 0 ≤ far
      top m h (yes e) = rw (p, e, get_or-set_same best o k 0 (omega (arith, st.places))) (omega (arith, a, st.tops o lt))
      top m h (no e) = rw (p, get_or-set_other best o m k 0 e) (st.tops m h)

      go : (m : ℕ) → m < n → Dec (m ≡ o) → get_or best' m 0 ≤ get_or seg' (n + m) 0
      go m h (yes e) = rw (p, e, get_or-set_same best o k 0 (omega (arith, st.places)), ch.here) (omega arith)
      go m h (no e) = rw (p, get_or-set_other best o m k 0 e, ch.others m h e) (st.over m h)

  -- what the mark is known by is no more than k then, and no more than it was
  pub offered_at : Offered n (keys best seg) (keys best' seg') o k → get_or best' o 0 ≤ k
  offered_at (kept a p q) = rw p a
  offered_at (fell a p ch) = rw (p, get_or-set_same best o k 0 (omega (arith, st.places))) (omega arith)

  pub offered_le : Offered n (keys best seg) (keys best' seg') o k → (m : ℕ) → get_or best' m 0 ≤ get_or best m 0
  offered_le (kept a p q) m = rw p (omega arith)
  offered_le (fell a p ch) m = go (ℕ_discrete m o)
    where
      go : Dec (m ≡ o) → get_or best' m 0 ≤ get_or best m 0
      go (yes e) = rw (p, e, get_or-set_same best o k 0 (omega (arith, st.places))) (omega arith)
      go (no e) = rw (p, get_or-set_other best o m k 0 e) (omega arith)

-- ---- relax: what is done, and what is on the chain from i

pub record Relaxing (n : ℕ) (next ends : List ℕ) (a z : Keys) (first base i : ℕ) : Type 0 where
  pub stage : Stage n z.best z.seg
  pub each : (m : ℕ) → m < n → Moved n next ends a z first base m
  pub under : (j : ℕ) → On next first j → (On next i j) ⊎ (get_or z.best (mark_of ends j) 0 ≤ base + sum_of ends j)
  pub part : (j : ℕ) → On next i j → On next first j

pub relax_end : (n : ℕ) (next ends best seg best' seg' : List ℕ) (first base i : ℕ)
    → Relaxing n next ends (keys best seg) (keys best' seg') first base i → i ≤ 0
    → Relaxed n next ends (keys best seg) (keys best' seg') first base
relax_end n next ends best seg best' seg' first base i x z = record {
  stage = x.stage;
  each = x.each;
  under = λ j o. go j
      (x.under j o);
}
  where
    go : (j : ℕ) → (On next i j) ⊎ (get_or best' (mark_of ends j) 0 ≤ base + sum_of ends j)
        → get_or best' (mark_of ends j) 0 ≤ base + sum_of ends j
    go j (inl o) = on_zero (omega arith) o
    go j (inr h) = h

module _ (n : ℕ) (next ends best seg b₁ s₁ b₂ s₂ : List ℕ) (first base i : ℕ)
    (x : Relaxing n next ends (keys best seg) (keys b₁ s₁) first base i) (pos : 0 < i)
    (lt : mark_of ends i < n) (y : Offered n (keys b₁ s₁) (keys b₂ s₂) (mark_of ends i) (base + sum_of ends i)) where
  each_next : (m : ℕ) → m < n → Moved n next ends (keys best seg) (keys b₁ s₁) first base m
      → Offered n (keys b₁ s₁) (keys b₂ s₂) (mark_of ends i) (base + sum_of ends i)
      → Moved n next ends (keys best seg) (keys b₂ s₂) first base m
  each_next m h w (kept a p q) = subst (λ (z : List ℕ). Moved n next ends (keys best seg) (keys z s₂) first base m) (sym p)
      (subst (λ (z : List ℕ). Moved n next ends (keys best seg) (keys b₁ z) first base m) (sym q) w)
  each_next m h w (fell a p ch) = go (ℕ_discrete m (mark_of ends i)) w
    where
      go : Dec (m ≡ mark_of ends i) → Moved n next ends (keys best seg) (keys b₁ s₁) first base m
          → Moved n next ends (keys best seg) (keys b₂ s₂) first base m
      go (no e) (still u v) = still (rw (p, get_or-set_other b₁ (mark_of ends i) m (base + sum_of ends i) 0 e) u) (ch.others m h e ∙ v)
      go (no e) (moved j on u v lt s) =
          let q : get_or b₂ m 0 ≡ get_or b₁ m 0 = rw p (get_or-set_other b₁ (mark_of ends i) m (base + sum_of ends i) 0 e) in
          moved j on u (q ∙ v) (omega (arith, q, lt)) (ch.others m h e ∙ s ∙ sym q)
      go (yes e) w = moved i (x.part i (here pos refl)) (sym e) val (below w) (ap (λ (z : ℕ). get_or s₂ (n + z) 0) e ∙ ch.here ∙ sym val)
        where
          val : get_or b₂ m 0 ≡ base + sum_of ends i
          val = rw (p, e) (get_or-set_same b₁ (mark_of ends i) (base + sum_of ends i) 0 (omega (arith, x.stage.places)))

          a' : base + sum_of ends i < get_or b₁ m 0
          a' = rw e a

          below : Moved n next ends (keys best seg) (keys b₁ s₁) first base m → get_or b₂ m 0 < get_or best m 0
          below (still u v) = omega (arith, val, u, a')
          below (moved j on u v l s) = omega (arith, val, l, a')

  pub relax_turn : Relaxing n next ends (keys best seg) (keys b₂ s₂) first base (get_or next i 0)
  relax_turn = record {
    stage = offered_stage n b₁ s₁ b₂ s₂ (mark_of ends i) (base + sum_of ends i) x.stage lt y;
    each = λ m h. each_next m h (x.each m h) y;
    under = λ j o. go j (x.under j o);
    part = λ j o. x.part j (later pos o);
  }
    where
      hit : (j : ℕ) → (j ≡ i) ⊎ On next (get_or next i 0) j
          → (On next (get_or next i 0) j) ⊎ (get_or b₂ (mark_of ends j) 0 ≤ base + sum_of ends j)
      hit j (inl e) = inr (rw e (offered_at n b₁ s₁ b₂ s₂ (mark_of ends i) (base + sum_of ends i) x.stage lt y))
      hit j (inr o) = inl o

      go : (j : ℕ) → (On next i j) ⊎ (get_or b₁ (mark_of ends j) 0 ≤ base + sum_of ends j)
          → (On next (get_or next i 0) j) ⊎ (get_or b₂ (mark_of ends j) 0 ≤ base + sum_of ends j)
      go j (inl o) = hit j (on_split o)
      go j (inr h) = inr (omega (arith, h, offered_le n b₁ s₁ b₂ s₂ (mark_of ends i) (base + sum_of ends i) x.stage lt y (mark_of ends j)))
