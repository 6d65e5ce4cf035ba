-- The way back by the lines by which marks came in is the shortest path of the definition. Assumes nothing.
use Prim.Native.Nat.{ℕ, zero, suc, ◌≤◌}
use native.Mathlib.Omega.{arith}
use mathlib.Core.Path.{◌≡◌, refl, sym, ◌∙◌, ap, subst}
use mathlib.Core.Bool.{Bool, true, false}
use mathlib.Core.List.Memᴰ
use mathlib.Core.List.{List, [], ◌∷◌, Memᴰ}
use mathlib.Core.Option.{Option, none, some, some-injective, some-ne-none, none-ne-some}
use lib.ListN.{length}
use lib.Dec.{eqb}
use borrow.Author.Tests.{eq-eqb, ne_eqb}
use Rattle.network.specs.Standing.{Line}
use Rattle.network.specs.Tree.{Entry, Tree, distance, grow}
use Rattle.network.specs.Path.{Pass}
use Rattle.network.proofs.Grown.{After, new, old, after, keeps, Stepped, line, root, stepped, is_new}
use Rattle.network.specs.Walk.{Ends, along, against}
use Rattle.network.proofs.Grown as gr
use Rattle.network.proofs.Shortest.{never}
use Rattle.network.specs.Codes.{code_of}
use Rattle.chains.specs.Chains.{Half, fore, aft, flip, Sound, AllSound}
use Rattle.search.specs.Front.{came, back, other_of, via_of, or_path, lineage}
use Rattle.chains.proofs.Halves.{half_ends}
use Rattle.search.proofs.Enter.{came_new, came_old}

-- ---- one line back

pub lineage_new : (e : Entry) (es : Tree) (m : ℕ) → e.mark ≡ m → lineage (e ∷ es) m ≡ via_of e.by m (λ u. lineage es u)
unfolding lineage
lineage_new e es m h = rw (eq-eqb e.mark m h)

pub lineage_old : (e : Entry) (es : Tree) (m : ℕ) → (e.mark ≡ m → ⊥) → lineage (e ∷ es) m ≡ lineage es m
unfolding lineage
lineage_old e es m h = rw (ne_eqb e.mark m h)

pub other_half : {n : ℕ} (l : Line) (u m h : ℕ) → Sound n l → Half l u m h → other_of (eqb l.from m) l ≡ u
other_half l u m h s (fore p q e) = rw (ne_eqb l.from m (λ z. s.apart (z ∙ sym q))) p
other_half l u m h s (aft p q e) = rw (eq-eqb l.from m q) p

pub code_half : {n : ℕ} (l : Line) (u m h : ℕ) → Sound n l → Half l u m h → code_of (back l m).forward (back l m).line.number ≡ flip h
code_half l u m h s (fore p q e) = rw (ne_eqb l.from m (λ z. s.apart (z ∙ sym q))) (omega arith)
code_half l u m h s (aft p q e) = rw (eq-eqb l.from m q) (omega arith)

ends_one : {n : ℕ} (l : Line) (u w m : ℕ) → Sound n l → Ends l u m → Ends l w m → u ≡ w
ends_one l u w m s (along p q) (along p' q') = sym p ∙ p'
ends_one l u w m s (along p q) (against p' q') = absurd (s.apart (q' ∙ sym q))
ends_one l u w m s (against p q) (along p' q') = absurd (s.apart (q ∙ sym q'))
ends_one l u w m s (against p q) (against p' q') = sym p ∙ p'

module _ (n : ℕ) (sub : List Line) (sound : AllSound n sub) (roots : List ℕ) where
  abbrev at : ℕ → Tree
  at k = grow sub roots k

  -- a mark that came in by no line is a root
  pub root_came : (k m d : ℕ) → came (at k) m ≡ none → distance (at k) m ≡ some d → Memᴰ m roots
  unfolding grow distance
  root_came zero m d c h = never h refl
  root_came (suc k) m d c h = go c h (stepped sub roots (at k)) (root_came k m d)
    where
      go : {es : Tree} → came es m ≡ none → distance es m ≡ some d → Stepped sub roots (at k) es
          → (came (at k) m ≡ none → distance (at k) m ≡ some d → Memᴰ m roots) → Memᴰ m roots
      go c h (line {e = e} x) ih = hit (after e (at k) m)
        where
          hit : After e (at k) m → Memᴰ m roots
          hit (new p q) = absurd (some-ne-none _ (sym x.its ∙ sym (came_new e (at k) m p) ∙ c))
          hit (old p q) = ih (sym (came_old e (at k) m p) ∙ c) (sym q ∙ h)
      go c h (root {e = e} x i) ih = hit (after e (at k) m)
        where
          hit : After e (at k) m → Memᴰ m roots
          hit (new p q) = Memᴰ.cast (sym p) i
          hit (old p q) = ih (sym (came_old e (at k) m p) ∙ c) (sym q ∙ h)
      go c h (gr.stop a b) ih = ih c h

  pub record Back (es : Tree) (l : Line) (m u : ℕ) : Type 0 where
    pub du : ℕ
    pub is_in : distance es u ≡ some du
    pub is_line : Memᴰ l sub
    pub way : lineage es m ≡ back l m ∷ lineage es u

  back_old : (e : Entry) (es : Tree) (l : Line) (m u : ℕ) → distance es e.mark ≡ none → (e.mark ≡ m → ⊥) → Back es l m u
      → Back (e ∷ es) l m u
  back_old e es l m u out d b = record {
    du = b.du;
    is_in = keeps e es u b.du out b.is_in;
    is_line = b.is_line;
    way =
        lineage_old e es m d ∙ b.way ∙ ap (λ (p : List Pass). back l m ∷ p)
        (sym (lineage_old e es u (λ z. never b.is_in (ap (distance es) (sym z) ∙ out))));
  }

  pub backed : (k : ℕ) (l : Line) (u m h : ℕ) → came (at k) m ≡ some l → Half l u m h → Back (at k) l m u
  unfolding grow came
  backed zero l u m h c j = absurd (none-ne-some l c)
  backed (suc k) l u m h c j = go c (stepped sub roots (at k)) (λ c'. backed k l u m h c' j)
    where
      go : {es : Tree} → came es m ≡ some l → Stepped sub roots (at k) es → (came (at k) m ≡ some l → Back (at k) l m u) → Back es l m u
      go c (line {e = e} x) ih = hit (after e (at k) m)
        where
          hit : After e (at k) m → Back (e ∷ at k) l m u
          hit (old p q) = back_old e (at k) l m u (is_new x) p (ih (sym (came_old e (at k) m p) ∙ c))
          hit (new p q) = record {
            du = x.sc.d;
            is_in = keeps e (at k) u x.sc.d (is_new x) in_old;
            is_line = mem;
            way = lineage_new e (at k) m p ∙ ap (λ (o : Option Line). via_of o m (λ z. lineage (at k) z)) byl
                ∙ ap (λ (z : ℕ). back l m ∷ lineage (at k) z) (other_half l u m h (sound l mem) j)
                ∙ ap (λ (w : List Pass). back l m ∷ w)
                (sym (lineage_old e (at k) u (λ z. never in_old (ap (distance (at k)) (sym z) ∙ is_new x))));
          }
            where
              byl : e.by ≡ some l
              byl = sym (came_new e (at k) m p) ∙ c

              same_line : x.l ≡ l
              same_line = some-injective _ _ (sym x.its ∙ byl)

              mem : Memᴰ l sub
              mem = Memᴰ.cast (sym same_line) x.is_line

              near_u : x.sc.near ≡ u
              near_u = ends_one l x.sc.near u m (sound l mem)
                  (subst (λ (z : Line). Ends z x.sc.near m) same_line (gr.ends_to (sym x.its_mark ∙ p) x.sc.ends)) (half_ends j)

              in_old : distance (at k) u ≡ some x.sc.d
              in_old = ap (distance (at k)) (sym near_u) ∙ x.sc.is_in
      go c (root {e = e} x i) ih = hit (after e (at k) m)
        where
          hit : After e (at k) m → Back (e ∷ at k) l m u
          hit (old p q) = back_old e (at k) l m u x.out p (ih (sym (came_old e (at k) m p) ∙ c))
          hit (new p q) = absurd (none-ne-some l (sym x.its ∙ sym (came_new e (at k) m p) ∙ c))
      go c (gr.stop a b) ih = ih c

  -- ---- a way has no more lines than the tree has marks

  lineage_few : (es : Tree) (m : ℕ) → length (lineage es m) ≤ length es
  unfolding lineage
  lineage_few [] m = omega arith
  lineage_few (e ∷ es) m = go (eqb e.mark m) e.by (lineage_few es)
    where
      go : (t : Bool) (o : Option Line) → ((m : ℕ) → length (lineage es m) ≤ length es)
          → length (or_path t (via_of o m (λ u. lineage es u)) (lineage es m)) ≤ suc (length es)
      go true none ih = omega arith
      go true (some l) ih = omega (arith, ih (other_of (eqb l.from m) l))
      go false o ih = omega (arith, ih m)

  grow_few : (k : ℕ) → length (at k) ≤ k
  unfolding grow
  grow_few zero = omega arith
  grow_few (suc k) = go (stepped sub roots (at k)) (grow_few k)
    where
      go : {es : Tree} → Stepped sub roots (at k) es → length (at k) ≤ k → length es ≤ suc k
      go (line x) ih = omega (arith, ih)
      go (root x i) ih = omega (arith, ih)
      go (gr.stop a b) ih = omega (arith, ih)

  pub way_few : (k m : ℕ) → length (lineage (at k) m) ≤ k
  way_few k m = omega (arith, lineage_few (at k) m, grow_few k)
