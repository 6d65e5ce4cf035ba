-- The shortest path: it is the one that document 01 names, there is no other, and it runs through no mark and over no line twice. Assumes
-- nothing.
use Prim.Native.Nat.{ℕ, ◌≤◌, ◌<◌}
use native.Mathlib.Omega.{arith}
use mathlib.Core.Path.{◌≡◌, refl, sym, ◌∙◌, ap, subst}
use mathlib.Core.Logic.{◌⊎◌, inl, inr}
use mathlib.Core.List.Memᴰ
use mathlib.Core.List.{List, [], ◌∷◌, Memᴰ}
use Rattle.network.specs.Standing.{Line}
use Rattle.network.specs.Sound.{Rising, Long, Sound}
use Rattle.network.specs.Pairwise.{no_pair, pairs}
use Rattle.network.specs.Walk.{Ends, Pass, start, stop, way_length, Walk, here, step, IsShortest, marks_on, AllDifferent, OnlyOnce}
use Rattle.network.specs.Path.{shortest}
use Rattle.network.proofs.Shortest.{ends_of, turn}
use Rattle.network.proofs.Count.{unique}
use Rattle.network.proofs.Enough.{is_shortest}
use Rattle.network.proofs.Flow.{ends_two}
use Rattle.network.proofs.Walks.{walk_wider}

-- no line of a sound book has length 0
pub sound_long : {b : ℕ} {lines : List Line} → Sound b lines → Long lines
sound_long sound l m = omega (arith, sound.long_enough l m)

-- ---- no walk is shorter

-- where no walk is shorter, none is shorter than what is left after the first pass
least_rest : {sub : List Line} {r u : ℕ} (p : Pass) (ps : List Pass) → start p ≡ u → Memᴰ p.line sub
    → ((v : List Pass) → Walk sub r u v → way_length (p ∷ ps) ≤ way_length v) → (v : List Pass) → Walk sub r (stop p) v
    → way_length ps ≤ way_length v
unfolding way_length
least_rest p ps s m h v x = omega (arith, h (p ∷ v) (step s m x))

-- from every mark on a walk the rest of it is a walk, and no longer
pub from_mark : {sub : List Line} {r u : ℕ} {w : List Pass} → Walk sub r u w → (m : ℕ) → Memᴰ m (marks_on u w)
    → (v : List Pass) × Walk sub r m v × (way_length v ≤ way_length w)
unfolding marks_on way_length
from_mark (here e) m (Memᴰ.head x) = ([], here (x ∙ e), omega arith)
from_mark (here e) m (Memᴰ.tail i) = absurd (Memᴰ.not-nil i)
from_mark {sub = sub} {r = r} (step {p = p} {ps = ps} s i w) m (Memᴰ.head x) = (p ∷ ps, step (s ∙ sym x) i w, omega arith)
from_mark (step {p = p} {ps = ps} s i w) m (Memᴰ.tail j) = let f = from_mark w m j in (f.0, f.1, omega (arith, f.2))

-- ---- so it comes through no mark twice

no_mark_twice_lem : {sub : List Line} → Long sub → {r u : ℕ} {w : List Pass} → Walk sub r u w
    → ((v : List Pass) → Walk sub r u v → way_length w ≤ way_length v)
    → AllDifferent (marks_on u w)
unfolding marks_on way_length
no_mark_twice_lem long (here e) h = pairs (λ k i. absurd (Memᴰ.not-nil i)) no_pair
no_mark_twice_lem {sub = sub} long {r = r} {u = u} (step {p = p} {ps = ps} s m w) h =
    pairs new (no_mark_twice_lem long w (least_rest p ps s m h))
  where
    new : (k : ℕ) → Memᴰ k (marks_on (stop p) ps) → u ≡ k → ⊥
    new k i e =
        let f = from_mark w k i in
        omega (arith, long p.line m, f.2, h f.0 (subst (λ (x : ℕ). Walk sub r x f.0) (sym e) f.1))

-- the ends of a pass are marks on the way
start_on : {sub : List Line} {r u : ℕ} {w : List Pass} → Walk sub r u w → (q : Pass) → Memᴰ q w
    → Memᴰ (start q) (marks_on u w) × Memᴰ (stop q) (marks_on u w)
unfolding marks_on
start_on (here e) q i = absurd (Memᴰ.not-nil i)
start_on (step {p = p} {ps = ps} s m w) q (Memᴰ.head e) = (
  Memᴰ.head (ap start e ∙ s),
  Memᴰ.tail (subst (λ (x : ℕ). Memᴰ x (marks_on (stop p) ps)) (sym (ap stop e))
      (first_on (stop p) ps)),
)
  where
    first_on : (v : ℕ) (ps : List Pass) → Memᴰ v (marks_on v ps)
    first_on v [] = Memᴰ.head refl
    first_on v (q ∷ qs) = Memᴰ.head refl
start_on (step s m w) q (Memᴰ.tail i) = let f = start_on w q i in (Memᴰ.tail f.0, Memᴰ.tail f.1)

-- a walk runs along its lines
pub pass_line : {sub : List Line} {r u : ℕ} {w : List Pass} → Walk sub r u w → (q : Pass) → Memᴰ q w → Memᴰ q.line sub
pass_line (here e) q i = absurd (Memᴰ.not-nil i)
pass_line {sub = sub} (step s m w) q (Memᴰ.head e) = subst (λ (x : Pass). Memᴰ x.line sub) (sym e) m
pass_line (step s m w) q (Memᴰ.tail i) = pass_line w q i

-- and a walk that comes through no mark twice runs over no line twice
no_line_twice_lem : {sub : List Line} → Rising sub → {r u : ℕ} {w : List Pass} → Walk sub r u w → AllDifferent (marks_on u w) → OnlyOnce w
unfolding marks_on
no_line_twice_lem rising (here e) d = no_pair
no_line_twice_lem {sub = sub} rising {u = u} (step {p = p} {ps = ps} s m w) (pairs f d) = pairs new (no_line_twice_lem rising w d)
  where
    new : (q : Pass) → Memᴰ q ps → p.line.number ≡ q.line.number → ⊥
    new q i z =
        go (ends_two (ends_of q) (subst (λ (l : Line). Ends l (stop p) (start p))
        (unique sub rising p.line q.line m (pass_line w q i) z) (turn (ends_of p))))
      where
        go : (start p ≡ start q) ⊎ (start p ≡ stop q) → ⊥
        go (inl e) = f (start q) (start_on w q i).0 (sym s ∙ e)
        go (inr e) = f (stop q) (start_on w q i).1 (sym s ∙ e)

-- ---- a shortest path that runs in fewer lines is the shortest there

-- a walk whose passes run over fewer lines is a walk along those
pub walk_within : {all few : List Line} {r u : ℕ} {w : List Pass} → Walk all r u w
    → ((p : Pass) → Memᴰ p w → Memᴰ p.line few) → Walk few r u w
walk_within (here e) h = here e
walk_within (step {p = p} s m w) h = step s (h p (Memᴰ.head refl)) (walk_within w (λ q i. h q (Memᴰ.tail i)))

-- and if it is the shortest along all, it is the shortest along those
pub shortest_of_fewer : {all few : List Line} → ((l : Line) → Memᴰ l few → Memᴰ l all) → {r u : ℕ} {p : List Pass}
    → IsShortest all r u p → Walk few r u p
    → IsShortest few r u p
shortest_of_fewer h x w = record { is_walk = w; least = λ v. x.least (walk_wider h v); first = λ v e. x.first (walk_wider h v) e }

-- ---- the theorems

module _ (b : ℕ) (sub : List Line) (sound : Sound b sub) where
  -- `shortest` is the shortest path, wherever there is a walk at all
  pub shortest_is_shortest : (u r : ℕ) → 0 < r → r ≤ b → {w : List Pass} → Walk sub r u w → IsShortest sub r u (shortest b sub u r)
  shortest_is_shortest u r low high w = is_shortest b sub sound.placed (sound_long sound) r low high sound.rising u w

  -- it comes through no mark twice
  pub shortest_no_mark_twice : {u r : ℕ} {p : List Pass} → IsShortest sub r u p → AllDifferent (marks_on u p)
  shortest_no_mark_twice x = no_mark_twice_lem (sound_long sound) x.is_walk (λ v w. x.least w)

  -- and runs over no line twice
  pub shortest_no_line_twice : {u r : ℕ} {p : List Pass} → IsShortest sub r u p → OnlyOnce p
  shortest_no_line_twice x = no_line_twice_lem sound.rising x.is_walk (shortest_no_mark_twice x)
