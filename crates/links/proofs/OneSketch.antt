-- There is one junction sketch of sound lines: the rule leads to `sketch_of` and to no other. Assumes nothing.
use Prim.Native.Nat.{ℕ, zero, suc, ◌≤◌}
use native.Mathlib.Omega.{arith}
use mathlib.Core.Path.{◌≡◌, refl, sym, ◌∙◌, ap, subst}
use mathlib.Core.Logic.{◌⊎◌, inl, inr}
use mathlib.Core.List.Memᴰ
use mathlib.Core.List.{List, [], ◌∷◌, ◌++◌}
use lib.ListN.{length, length-append, length-map}
use Rattle.network.specs.Standing.{Line}
use Rattle.network.specs.Sound.{Sound}
use Rattle.links.specs.Link.{own_link, read_from, read_to, joined}
use Rattle.links.specs.Ends.{ends_at}
use Rattle.links.specs.Sketch.{Sketch, step, steps, start_of, finished, sketch_of}
use Rattle.links.specs.Steps.{NoneLeft, Steps, spur, loop, merge, done, IsSketch}
use Rattle.links.proofs.OneStep.{Next, by_spur, by_loop, by_merge, step_is, is_step, none_made}
use Rattle.links.specs.Stage.{Stage}
use Rattle.links.proofs.Stages.{stage_start, stage_next, stage_step}

-- ---- each step takes one link away

pub one_less : {b : ℕ} {s s' : Sketch} → Next b s s' → suc (length s'.links) ≡ length s.links
one_less {s = s} {s' = s'} (by_spur x) =
    omega (
      arith,
      ap (λ (u : Sketch). length u.links) x.then,
      ap length x.links_are,
      length-append x.before x.after,
      length-append x.before (x.its ∷ x.after),
    )
one_less {s = s} {s' = s'} (by_loop x) =
    omega (
      arith,
      ap (λ (u : Sketch). length u.links) x.then,
      ap length x.links_are,
      length-append x.before x.after,
      length-append x.before (x.its ∷ x.after),
    )
one_less {s = s} {s' = s'} (by_merge x) =
    let made = joined (read_to x.mark x.one) (read_from x.mark x.other) in
    omega (
      arith,
      ap (λ (u : Sketch). length u.links) x.then,
      ap length x.links_are,
      length-append (x.before ++ made ∷ x.between) x.after,
      length-append x.before (made ∷ x.between),
      length-append (x.before ++ x.one ∷ x.between) (x.other ∷ x.after),
      length-append x.before (x.one ∷ x.between),
    )

-- ---- until none is left

-- where no link is left, no step is
no_links : (b : ℕ) (s : Sketch) → s.links ≡ [] → NoneLeft b s
unfolding ends_at
no_links b s e = record {
  no_spur = λ m low high h. omega (arith, h, ap (ends_at m) e);
  no_loop = λ x i h. Memᴰ.not-nil (rw e at i);
  no_merge = λ m low high h. omega (arith, h, ap (ends_at m) e);
}

-- and where no step is left, none is made
pub stays : (b k : ℕ) (s : Sketch) → NoneLeft b s → steps b k s ≡ s
unfolding steps
stays b zero s x = refl
stays b (suc k) s x = ap (steps b k) (none_made b s x) ∙ stays b k s x

-- a list without elements is empty
none_of : {A : Type 0} (xs : List A) → length xs ≤ 0 → xs ≡ []
none_of [] h = refl
none_of (x ∷ xs) h = absurd (omega arith)

-- one step of the rule and then others
next_then : {b : ℕ} {s s' u : Sketch} → Next b s s' → Steps b s' u → Steps b s u
next_then (by_spur x) p = spur x p
next_then (by_loop x) p = loop x p
next_then (by_merge x) p = merge x p

-- as many steps as there are links, at most, are steps of the rule until none is left
steps_are : {b : ℕ} {lines : List Line} (k : ℕ) {s : Sketch} → Stage b lines s → length s.links ≤ k → Steps b s (steps b k s)
unfolding steps
steps_are {b = b} zero {s = s} t h = done (no_links b s (none_of s.links h))
steps_are {b = b} {lines = lines} (suc k) {s = s} t h = go (step_is b s t.rises) (λ l. steps_are k (stage_step t) l)
  where
    go : Next b s (step b s) ⊎ NoneLeft b s → (length (step b s).links ≤ k → Steps b (step b s) (steps b k (step b s)))
        → Steps b s (steps b k (step b s))
    go (inl x) ih = next_then x (ih (omega (arith, one_less x)))
    go (inr x) ih = subst (Steps b s) (sym (stays b (suc k) s x)) (done x)

-- where what follows a step is determined, so is what follows from before it
one_before : {b : ℕ} {lines : List Line} {s s' u : Sketch} → Stage b lines s → Next b s s'
    → ((k : ℕ) → length s'.links ≤ k → u ≡ steps b k s') → (k : ℕ) → length s.links ≤ k → u ≡ steps b k s
unfolding steps
one_before t x rest zero h = absurd (omega (arith, one_less x))
one_before {b = b} {s = s} {s' = s'} t x rest (suc k) h =
    rest k (omega (arith, one_less x)) ∙ ap (steps b k) (is_step b s s' t.rises x)

-- and there are no others
only_steps : {b : ℕ} {lines : List Line} {s u : Sketch} → Steps b s u → Stage b lines s → (k : ℕ) → length s.links ≤ k
    → u ≡ steps b k s
only_steps (spur x p) t = one_before t (by_spur x) (only_steps p (stage_next t (by_spur x)))
only_steps (loop x p) t = one_before t (by_loop x) (only_steps p (stage_next t (by_loop x)))
only_steps (merge x p) t = one_before t (by_merge x) (only_steps p (stage_next t (by_merge x)))
only_steps {b = b} (done {s = s} x) t = λ k h. sym (stays b k s x)

-- where the steps end, none is left
pub steps_end : {b : ℕ} {s u : Sketch} → Steps b s u → NoneLeft b u
steps_end (spur x p) = steps_end p
steps_end (loop x p) = steps_end p
steps_end (merge x p) = steps_end p
steps_end (done x) = x

-- ---- the theorems

module _ (b : ℕ) (lines : List Line) (sound : Sound b lines) where
  -- there are as many links as lines at the start
  few_links : length (start_of lines).links ≤ length lines
  unfolding start_of
  few_links = omega (arith, length-map lines own_link)

  -- from every line as a link of its own, each step the first there is, until none is left
  pub rule_leads_there : Steps b (start_of lines) (steps b (length lines) (start_of lines))
  rule_leads_there = steps_are (length lines) (stage_start sound) few_links

  -- `sketch_of` is a junction sketch of the lines
  pub is_sketch : IsSketch b lines (sketch_of b lines)
  unfolding sketch_of
  is_sketch = record { left = steps b (length lines) (start_of lines); way = rule_leads_there; its = refl }

  -- and the only one: there is no other sequence of steps
  pub only_sketch : (s : Sketch) → IsSketch b lines s → s ≡ sketch_of b lines
  unfolding sketch_of
  only_sketch s x = x.its ∙ ap finished (only_steps x.way (stage_start sound) (length lines) few_links)
