-- Walks: one after the other, back, and along more lines. Assumes nothing.
use Prim.Native.Nat.{ℕ}
use mathlib.Core.Path.{◌≡◌, refl, sym, ◌∙◌, subst}
use mathlib.Core.Bool.{Bool, true, false, not}
use mathlib.Core.List.{List, [], ◌∷◌, ◌++◌, Memᴰ}
use Rattle.network.specs.Standing.{Line}
use Rattle.network.specs.Walk.{Pass, pass, flip, end, start, stop, Walk, here, step, Ends, along, against}

-- one walk after the other
pub walk_append : {ls : List Line} {r v u : ℕ} {w w' : List Pass} → Walk ls v u w → Walk ls r v w' → Walk ls r u (w ++ w')
walk_append {ls = ls} {r = r} {w' = w'} (here e) y = subst (λ (x : ℕ). Walk ls r x w') (sym e) y
walk_append (step s m x) y = step s m (walk_append x y)

-- a pass run the other way starts where the pass stops
pub flip_start : (p : Pass) → start (flip p) ≡ stop p
flip_start p = go p.forward
  where
    go : (f : Bool) → end (not f) p.line.from p.line.to ≡ end f p.line.to p.line.from
    go true = refl
    go false = refl

-- and stops where it starts
pub flip_stop : (p : Pass) → stop (flip p) ≡ start p
flip_stop p = go p.forward
  where
    go : (f : Bool) → end (not f) p.line.to p.line.from ≡ end f p.line.from p.line.to
    go true = refl
    go false = refl

-- some walk along the lines ls from mark u to mark r
abbrev pub Way : List Line → ℕ → ℕ → Type 0
Way ls r u = (w : List Pass) × Walk ls r u w

-- the way back
pub way_back : {ls : List Line} {r u : ℕ} {w : List Pass} → Walk ls r u w → Way ls u r
way_back (here e) = ([], here (sym e))
way_back {u = u} (step {p = p} s m x) =
    let y = way_back x in (y.0 ++ (flip p ∷ []), walk_append y.1 (step (flip_start p) m (here (flip_stop p ∙ s))))

-- a walk along some lines is a walk along more
pub walk_wider : {ls ms : List Line} → ((l : Line) → Memᴰ l ls → Memᴰ l ms) → {r u : ℕ} {w : List Pass} → Walk ls r u w
    → Walk ms r u w
walk_wider f (here e) = here e
walk_wider f (step s m x) = step s (f _ m) (walk_wider f x)

-- one line, from u to v
pub over : {ls : List Line} (l : Line) (u v : ℕ) → Memᴰ l ls → Ends l u v → Way ls v u
over l u v m (along p q) = (pass l true ∷ [], step p m (here q))
over l u v m (against p q) = (pass l false ∷ [], step p m (here q))
