-- A closed way begun with one of its lines: it runs the same lines, each as often. Assumes nothing.
use Prim.Native.Nat.{ℕ, suc, ◌+◌}
use native.Mathlib.Omega.{arith}
use mathlib.Core.Path.{◌≡◌, refl, sym, ◌∙◌, ap, subst}
use mathlib.Core.Bool.{Bool, true, false, cond}
use mathlib.Core.List.Memᴰ
use mathlib.Core.List.{List, [], ◌∷◌, ◌++◌, append_assoc, Memᴰ}
use lib.Dec.{eqb}
use lib.ListN.{length, length-append}
use borrow.Author.Tests.{eqb-true, eqb-false}
use Rattle.laws.proofs.Tests.{cond_ind}
use Rattle.network.specs.Standing.{Line}
use Rattle.network.specs.Piece.{bit}
use Rattle.network.specs.Walk.{Pass, flip, way_length}
use Rattle.links.specs.Link.{turned_way, positive, begun_with}
use Rattle.links.specs.Shape.{times_run}
use Rattle.links.proofs.Among.{all_both}
use Rattle.links.proofs.Turning.{of_turned, turned_count, turned_length, turned_times, length_both, times_both}

-- ---- the same lines

-- begun with a pass, or with it turned, a way has as many lines, is as long, and runs each line as often
positive_count : (p : Pass) (w : List Pass) → length (positive p w) ≡ suc (length w)
positive_count p w = go p.forward
  where
    go : (t : Bool) → length (cond t (p ∷ w) (flip p ∷ turned_way w)) ≡ suc (length w)
    go true = refl
    go false = ap suc (turned_count w)

positive_length : (p : Pass) (w : List Pass) → way_length (positive p w) ≡ way_length (p ∷ w)
unfolding way_length
positive_length p w = go p.forward
  where
    go : (t : Bool) → way_length (cond t (p ∷ w) (flip p ∷ turned_way w)) ≡ way_length (p ∷ w)
    go true = refl
    go false = ap (λ (n : ℕ). p.line.length + n) (turned_length w)

positive_times : (n : ℕ) (p : Pass) (w : List Pass) → times_run n (positive p w) ≡ times_run n (p ∷ w)
unfolding times_run
positive_times n p w = go p.forward
  where
    go : (t : Bool) → times_run n (cond t (p ∷ w) (flip p ∷ turned_way w)) ≡ times_run n (p ∷ w)
    go true = refl
    go false = ap (λ (k : ℕ). bit (eqb p.line.number n) + k) (turned_times n w)

-- begun with line n, a way has as many lines
pub begun_count : (n : ℕ) (before w : List Pass) → length (begun_with n before w) ≡ length before + length w
unfolding begun_with
begun_count n before [] = omega arith
begun_count n before (p ∷ ps) = go (eqb p.line.number n) (begun_count n (before ++ (p ∷ [])) ps)
  where
    go : (t : Bool) → length (begun_with n (before ++ (p ∷ [])) ps) ≡ length (before ++ (p ∷ [])) + length ps
        → length (cond t (positive p (ps ++ before)) (begun_with n (before ++ (p ∷ [])) ps)) ≡ length before + suc (length ps)
    go true ih = omega (arith, positive_count p (ps ++ before), length-append ps before)
    go false ih = omega (arith, ih, length-append before (p ∷ []))

-- it is as long
pub begun_length : (n : ℕ) (before w : List Pass) → way_length (begun_with n before w) ≡ way_length before + way_length w
unfolding begun_with way_length
begun_length n before [] = omega arith
begun_length n before (p ∷ ps) = go (eqb p.line.number n) (begun_length n (before ++ (p ∷ [])) ps)
  where
    go : (t : Bool) → way_length (begun_with n (before ++ (p ∷ [])) ps) ≡ way_length (before ++ (p ∷ [])) + way_length ps
        → way_length (cond t (positive p (ps ++ before)) (begun_with n (before ++ (p ∷ [])) ps))
        ≡ way_length before + (p.line.length + way_length ps)
    go true ih = omega (arith, positive_length p (ps ++ before), length_both ps before)
    go false ih = omega (arith, ih, length_both before (p ∷ []))

-- and runs each line as often
pub begun_times : (m n : ℕ) (before w : List Pass) → times_run m (begun_with n before w) ≡ times_run m before + times_run m w
unfolding begun_with times_run
begun_times m n before [] = omega arith
begun_times m n before (p ∷ ps) = go (eqb p.line.number n) (begun_times m n (before ++ (p ∷ [])) ps)
  where
    go : (t : Bool) → times_run m (begun_with n (before ++ (p ∷ [])) ps) ≡ times_run m (before ++ (p ∷ [])) + times_run m ps
        → times_run m (cond t (positive p (ps ++ before)) (begun_with n (before ++ (p ∷ [])) ps))
        ≡ times_run m before + (bit (eqb p.line.number m) + times_run m ps)
    go true ih = omega (arith, positive_times m p (ps ++ before), times_both m ps before)
    go false ih = omega (arith, ih, times_both m before (p ∷ []))

-- what holds of every line of a way
abbrev pub OfEach : (Line → Type 0) → List Pass → Type 0
OfEach P w = (q : Pass) → Memᴰ q w → P q.line

-- of one line more
each_more : (P : Line → Type 0) (p : Pass) (w : List Pass) → P p.line → OfEach P w → OfEach P (p ∷ w)
each_more P p w h f q (Memᴰ.head e) = subst (λ (o : Pass). P o.line) (sym e) h
each_more P p w h f q (Memᴰ.tail i) = f q i

-- it holds begun with a pass, or with it turned
positive_each : (P : Line → Type 0) (p : Pass) (w : List Pass) → P p.line → OfEach P w → OfEach P (positive p w)
positive_each P p w h f =
    cond_ind (OfEach P) p.forward (p ∷ w) (flip p ∷ turned_way w) (λ e. each_more P p w h f)
    (λ e. each_more P (flip p) (turned_way w) h (λ q i. f (flip q) (of_turned w q i)))

-- and begun with line n
pub begun_each : (P : Line → Type 0) (n : ℕ) (before w : List Pass) → OfEach P before → OfEach P w → OfEach P (begun_with n before w)
unfolding begun_with
begun_each P n before [] f g = f
begun_each P n before (p ∷ ps) f g = go (eqb p.line.number n)
    (begun_each P n (before ++ (p ∷ [])) ps (all_both (λ (q : Pass). P q.line) before (p ∷ []) f (each_more P p [] here none)) rest)
  where
    here : P p.line
    here = g p (Memᴰ.head refl)

    none : OfEach P []
    none q i = absurd (Memᴰ.not-nil i)

    rest : OfEach P ps
    rest q i = g q (Memᴰ.tail i)

    go : (t : Bool) → OfEach P (begun_with n (before ++ (p ∷ [])) ps)
        → OfEach P (cond t (positive p (ps ++ before)) (begun_with n (before ++ (p ∷ [])) ps))
    go true ih = positive_each P p (ps ++ before) here (all_both (λ (q : Pass). P q.line) ps before rest f)
    go false ih = ih

-- ---- the line with which it is begun

-- the way w comes to its pass p over line n and goes on; r is that begun with p, so run that p is forward
pub record BegunAt (n : ℕ) (w r : List Pass) : Type 0 where
  pub before : List Pass
  pub its : Pass
  pub after : List Pass
  pub way_is : w ≡ before ++ its ∷ after
  pub number_is : its.line.number ≡ n
  pub then : r ≡ positive its (after ++ before)

-- a way that runs line n is so begun
pub begins_at : (n : ℕ) (before w : List Pass) (p : Pass) → Memᴰ p w → p.line.number ≡ n
    → BegunAt n (before ++ w) (begun_with n before w)
unfolding begun_with
begins_at n before [] p i e = absurd (Memᴰ.not-nil i)
begins_at n before (q ∷ qs) p i e = go (eqb q.line.number n) refl i (λ j. begins_at n (before ++ (q ∷ [])) qs p j e)
  where
    go : (t : Bool) → eqb q.line.number n ≡ t → Memᴰ p (q ∷ qs)
        → (Memᴰ p qs → BegunAt n (before ++ (q ∷ []) ++ qs) (begun_with n (before ++ (q ∷ [])) qs))
        → BegunAt n (before ++ q ∷ qs) (cond t (positive q (qs ++ before)) (begun_with n (before ++ (q ∷ [])) qs))
    go true h i ih = record {
      before = before;
      its = q;
      after = qs;
      way_is = refl;
      number_is = eqb-true q.line.number n h;
      then = refl;
    }
    go false h (Memᴰ.head z) ih = absurd (eqb-false q.line.number n h (sym (ap (λ (x : Pass). x.line.number) z) ∙ e))
    go false h (Memᴰ.tail j) ih =
        subst (λ (w : List Pass). BegunAt n w (begun_with n (before ++ (q ∷ [])) qs)) (append_assoc before (q ∷ []) qs) (ih j)
