-- Lines that no shortest path wants: where each line beyond the subgraph has a better one with the same ends in it, the shortest paths of
-- the subgraph are the shortest of all. Assumes nothing.
use Prim.Native.Nat.{ℕ, ◌≤◌, ◌<◌}
use native.Mathlib.Omega.{arith}
use mathlib.Core.Path.{◌≡◌, refl, sym, ◌∙◌, ap, subst}
use mathlib.Core.Logic.{◌⊎◌, inl, inr}
use mathlib.Core.Bool.{true, false}
use mathlib.Core.List.Memᴰ
use mathlib.Core.List.{List, [], ◌∷◌, Memᴰ}
use Rattle.network.specs.Standing.{Line}
use Rattle.network.specs.Walk.{Ends, along, against, Pass, pass, start, stop, way_length, Walk, here, step, Before, equal, lower}
use Rattle.network.specs.Walk.{alike, IsShortest}
use Rattle.network.proofs.Shortest.{ends_of}
use Rattle.network.proofs.Walks.{walk_wider}
use Rattle.network.proofs.Parallel.{Parallel, Lower, parallel_ends}

-- a line run from its end u to its end v
pub run_from : (l : Line) {u v : ℕ} → Ends l u v → (p : Pass) × (p.line ≡ l) × (start p ≡ u) × (stop p ≡ v)
run_from l (along a c) = (pass l true, refl, a, c)
run_from l (against a c) = (pass l false, refl, a, c)

-- what comes before a path that comes before a third comes before the third
pub before_trans : {p q r : List Pass} → Before p q → Before q r → Before p r
before_trans equal equal = equal
before_trans (lower {p = p} x) (lower {q = r} y) = let lt : p.line.number < r.line.number = omega arith in lower lt
before_trans (lower {p = p} x) (alike {q = r} e y) =
    let lt : p.line.number < r.line.number = omega (arith, ap (λ (o : Pass). o.line.number) e) in lower lt
before_trans (alike {p = p} e x) (lower {q = r} y) =
    let lt : p.line.number < r.line.number = omega (arith, ap (λ (o : Pass). o.line.number) e) in lower lt
before_trans (alike e x) (alike f y) = alike (e ∙ f) (before_trans x y)

-- shorter, or as short and not later by numbers
abbrev pub NotWorse : List Pass → List Pass → Type 0
NotWorse v w = (way_length v < way_length w) ⊎ ((way_length v ≡ way_length w) × Before v w)

not_worse_after : (p : Pass) (v w : List Pass) → NotWorse v w → NotWorse (p ∷ v) (p ∷ w)
unfolding way_length
not_worse_after p v w (inl lt) = inl (omega arith)
not_worse_after p v w (inr (e, x)) = inr (omega (arith, e), alike refl x)

not_worse_over : (q p : Pass) (v w : List Pass) → Lower q.line p.line → NotWorse v w → NotWorse (q ∷ v) (p ∷ w)
unfolding way_length
not_worse_over q p v w (inl lt) (inl x) = inl (omega arith)
not_worse_over q p v w (inl lt) (inr (e, x)) = inl (omega (arith, e))
not_worse_over q p v w (inr (f, lt)) (inl x) = inl (omega (arith, f))
not_worse_over q p v w (inr (f, lt)) (inr (e, x)) = inr (omega (arith, e, f), lower lt)

module _ (sub all : List Line) (of_all : (l : Line) → Memᴰ l sub → Memᴰ l all)
    (better : (d : Line) → Memᴰ d all → Memᴰ d sub ⊎ ((y : Line) × Memᴰ y sub × Parallel y d × Lower y d)) where
  -- any walk has one in the subgraph that is not worse
  pub replaced : {r u : ℕ} {w : List Pass} → Walk all r u w → (v : List Pass) × Walk sub r u v × NotWorse v w
  replaced (here e) = ([], here e, inr (refl, equal))
  replaced {r = r} {u = u} (step {p = p} {ps = ps} s m w) = go (replaced w) (better p.line m)
    where
      go : (v : List Pass) × Walk sub r (stop p) v × NotWorse v ps
          → Memᴰ p.line sub ⊎ ((y : Line) × Memᴰ y sub × Parallel y p.line × Lower y p.line)
          → (v : List Pass) × Walk sub r u v × NotWorse v (p ∷ ps)
      go (v, x, n) (inl i) = (p ∷ v, step s i x, not_worse_after p v ps n)
      go (v, x, n) (inr (y, i, par, low)) = over (run_from y (parallel_ends par (ends_of p)))
        where
          over : (q : Pass) × (q.line ≡ y) × (start q ≡ start p) × (stop q ≡ stop p)
              → (v : List Pass) × Walk sub r u v × NotWorse v (p ∷ ps)
          over (q, a, c, d) = (
            q ∷ v,
            step (c ∙ s) (Memᴰ.cast a i) (subst (λ (z : ℕ). Walk sub r z v) (sym d) x),
            not_worse_over q p v ps (subst (λ (k : Line). Lower k p.line) (sym a) low) n,
          )

  -- so the shortest path in the subgraph is the shortest of all
  pub shortest_of_more : {r u : ℕ} {p : List Pass} → IsShortest sub r u p → IsShortest all r u p
  shortest_of_more {r = r} {u = u} {p = p} x =
      record { is_walk = walk_wider of_all x.is_walk; least = λ w. least (replaced w); first = λ w e. first e (replaced w) }
    where
      least : {w : List Pass} → (v : List Pass) × Walk sub r u v × NotWorse v w → way_length p ≤ way_length w
      least (v, y, inl lt) = omega (arith, x.least y)
      least (v, y, inr (e, z)) = omega (arith, x.least y, e)

      first : {w : List Pass} → way_length w ≡ way_length p → (v : List Pass) × Walk sub r u v × NotWorse v w → Before p w
      first e (v, y, inl lt) = absurd (omega (arith, x.least y, e))
      first e (v, y, inr (f, z)) = before_trans (x.first y (f ∙ e)) z
