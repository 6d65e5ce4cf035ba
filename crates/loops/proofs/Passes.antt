-- The signed passes of a walk are a flow that is balanced but at its two ends. Assumes nothing.
use Prim.Native.Nat.{ℕ}
use mathlib.Core.Path.{◌≡◌, refl, sym, ◌∙◌, ap, ap₂, subst}
use mathlib.Core.Bool.{Bool, true, false}
use mathlib.Core.List.{List, [], ◌∷◌, map, Memᴰ}
use lib.IntN.{ℤ, pos, negsuc, neg_ℤ, ◌+ℤ◌, ◌*ℤ◌, suc_ℤ, pred_ℤ, +ℤ_idl}
use lib.IntN.{+ℤ_idr, +ℤ_assoc, +ℤ_comm, +ℤ_invr, +ℤ_invl, +ℤ_one, -ℤ_one, neg_ℤ-+ℤ}
use lib.IntN.{zero-*ℤ, *ℤ-zero, suc_ℤ-*ℤ, pred_ℤ-*ℤ, ℤ_ind}
use lib.Dec.{eqb}
use borrow.Author.Tests.{eq-eqb, ne_eqb}
use Rattle.network.specs.Standing.{Line}
use Rattle.network.specs.Path.{Pass, start, stop, end}
use Rattle.loops.specs.Loops.{Loop}
use Rattle.loops.specs.Row.{misclosure}
use Rattle.loops.specs.Passes.{sense, pass_if, sum_of, combine, combine_misclosures}
unfoldable pub use Rattle.loops.specs.Passes.{once, passes}
use Rattle.network.proofs.Flow.{sides, share, at, at_none, at_one, zero_share}
use Rattle.network.specs.Walk.{Walk, here, step}
use Rattle.network.specs.Sound.{Rising}

-- ---- what lib.IntN does not have: left commutativity, and that the product distributes

pub +ℤ_left_comm : (a b c : ℤ) → a +ℤ (b +ℤ c) ≡ b +ℤ (a +ℤ c)
+ℤ_left_comm a b c = sym (+ℤ_assoc a b c) ∙ ap (λ (x : ℤ). x +ℤ c) (+ℤ_comm a b) ∙ +ℤ_assoc b a c

pub four : (a b c d : ℤ) → (a +ℤ b) +ℤ (c +ℤ d) ≡ (a +ℤ c) +ℤ (b +ℤ d)
four a b c d = simp (+ℤ_assoc, +ℤ_left_comm)

module _ (x y : ℤ) where
  -- the law at k; it passes to the next number and to the one before. (At a variable k: at `pos n` the sum computes, and `rw` no longer
  -- finds it)
  Dist : ℤ → Type 0
  Dist k = k *ℤ (x +ℤ y) ≡ k *ℤ x +ℤ k *ℤ y

  dist_suc : (k : ℤ) → Dist k → Dist (suc_ℤ k)
  unfolding Dist
  dist_suc k h = rw (suc_ℤ-*ℤ k (x +ℤ y), suc_ℤ-*ℤ k x, suc_ℤ-*ℤ k y, h) (four (k *ℤ x) (k *ℤ y) x y)

  dist_pred : (k : ℤ) → Dist k → Dist (pred_ℤ k)
  unfolding Dist
  dist_pred k h =
      rw (pred_ℤ-*ℤ k (x +ℤ y), pred_ℤ-*ℤ k x, pred_ℤ-*ℤ k y, h, neg_ℤ-+ℤ x y) (four (k *ℤ x) (k *ℤ y) (neg_ℤ x) (neg_ℤ y))

  pub *ℤ_distrib : (k : ℤ) → k *ℤ (x +ℤ y) ≡ k *ℤ x +ℤ k *ℤ y
  unfolding Dist
  *ℤ_distrib k = ℤ_ind Dist (rw (zero-*ℤ (x +ℤ y), zero-*ℤ x, zero-*ℤ y))
      (λ n h. subst Dist (sym (+ℤ_one (pos n))) (dist_suc (pos n) h))
      (λ n h. subst Dist (sym (-ℤ_one (neg_ℤ (pos n)))) (dist_pred (neg_ℤ (pos n)) h)) k

pub *ℤ_neg : (k x : ℤ) → k *ℤ neg_ℤ x ≡ neg_ℤ (k *ℤ x)
*ℤ_neg k x =
    sym (+ℤ_idr (k *ℤ neg_ℤ x)) ∙ ap (λ (z : ℤ). k *ℤ neg_ℤ x +ℤ z) (sym (+ℤ_invr (k *ℤ x)))
    ∙ sym (+ℤ_assoc (k *ℤ neg_ℤ x) (k *ℤ x) (neg_ℤ (k *ℤ x)))
    ∙ ap (λ (z : ℤ). z +ℤ neg_ℤ (k *ℤ x)) (sym (*ℤ_distrib (neg_ℤ x) x k) ∙ ap (λ (z : ℤ). k *ℤ z) (+ℤ_invl x) ∙ *ℤ-zero k)
    ∙ +ℤ_idl (neg_ℤ (k *ℤ x))

-- ---- the sum at a mark is linear in the flow

pub sides_add : (a b : Bool) (x y : ℤ) → sides a b (x +ℤ y) ≡ sides a b x +ℤ sides a b y
sides_add true true x y = refl
sides_add true false x y = refl
sides_add false true x y = neg_ℤ-+ℤ x y
sides_add false false x y = refl

pub sides_mul : (a b : Bool) (k x : ℤ) → sides a b (k *ℤ x) ≡ k *ℤ sides a b x
sides_mul true true k x = sym (*ℤ-zero k)
sides_mul true false k x = refl
sides_mul false true k x = sym (*ℤ_neg k x)
sides_mul false false k x = sym (*ℤ-zero k)

pub at_add : (f g : ℕ → ℤ) (m : ℕ) (lines : List Line) → at (λ n. f n +ℤ g n) m lines ≡ at f m lines +ℤ at g m lines
unfolding at share
at_add f g m [] = refl
at_add f g m (l ∷ ls) =
    rw (sides_add (eqb l.to m) (eqb l.from m) (f l.number) (g l.number), at_add f g m ls)
    (four (share f m l) (share g m l) (at f m ls) (at g m ls))

pub at_mul : (k : ℤ) (f : ℕ → ℤ) (m : ℕ) (lines : List Line) → at (λ n. k *ℤ f n) m lines ≡ k *ℤ at f m lines
unfolding at share
at_mul k f m [] = sym (*ℤ-zero k)
at_mul k f m (l ∷ ls) =
    rw (sides_mul (eqb l.to m) (eqb l.from m) k (f l.number), at_mul k f m ls) (sym (*ℤ_distrib (share f m l) (at f m ls) k))

-- ---- passes

unfoldable pub unit : ℕ → ℕ → ℤ
unit m x = pass_if (eqb x m) (pos 1)

pub onward_bits : (a b : Bool) → sides a b (pos 1) ≡ pass_if a (pos 1) +ℤ neg_ℤ (pass_if b (pos 1))
onward_bits true true = refl
onward_bits true false = refl
onward_bits false true = refl
onward_bits false false = refl

pub back_bits : (a b : Bool) → sides a b (negsuc 0) ≡ pass_if b (pos 1) +ℤ neg_ℤ (pass_if a (pos 1))
back_bits true true = refl
back_bits true false = refl
back_bits false true = refl
back_bits false false = refl

-- one pass takes a unit from its start to its end
pub at_once : (lines : List Line) → Rising lines → (p : Pass) → Memᴰ p.line lines → (m : ℕ)
    → at (once p) m lines ≡ unit m (stop p) +ℤ neg_ℤ (unit m (start p))
unfolding share once unit
at_once lines r p i m =
    at_one (once p) m lines r p.line i others ∙ rw (eq-eqb p.line.number p.line.number refl) (own p.forward)
  where
    others : (k : Line) → Memᴰ k lines → (k.number ≡ p.line.number → ⊥) → share (once p) m k ≡ pos 0
    others k j d = zero_share (once p) k m (rw (ne_eqb p.line.number k.number (λ z. d (sym z))))

    own : (f : Bool) → sides (eqb p.line.to m) (eqb p.line.from m) (sense f)
        ≡ pass_if (eqb (end f p.line.to p.line.from) m) (pos 1) +ℤ neg_ℤ
        (pass_if (eqb (end f p.line.from p.line.to) m) (pos 1))
    own true = onward_bits (eqb p.line.to m) (eqb p.line.from m)
    own false = back_bits (eqb p.line.to m) (eqb p.line.from m)

pub at_zero : (m : ℕ) (lines : List Line) → at (λ n. pos 0) m lines ≡ pos 0
at_zero m lines = at_none (λ n. pos 0) m lines (λ k i. zero_share (λ n. pos 0) k m refl)

-- (b - a) + (c - b) is c - a
pub telescope : (a b c : ℤ) → (b +ℤ neg_ℤ a) +ℤ (c +ℤ neg_ℤ b) ≡ c +ℤ neg_ℤ a
telescope a b c = four b (neg_ℤ a) c (neg_ℤ b) ∙ ap (λ (z : ℤ). (b +ℤ c) +ℤ z) (+ℤ_comm (neg_ℤ a) (neg_ℤ b)) ∙ four b c (neg_ℤ b) (neg_ℤ a)
    ∙ ap (λ (z : ℤ). z +ℤ (c +ℤ neg_ℤ a)) (+ℤ_invr b) ∙ +ℤ_idl (c +ℤ neg_ℤ a)

-- a walk takes a unit from its start to its end
pub at_walk : (lines : List Line) → Rising lines → (r m : ℕ) {u : ℕ} {w : List Pass} → Walk lines r u w
    → at (passes w) m lines ≡ unit m r +ℤ neg_ℤ (unit m u)
unfolding passes
at_walk lines rs r m (here e) = at_zero m lines ∙ rw e (sym (+ℤ_invr (unit m r)))
at_walk lines rs r m (step {u = u} {p = p} {ps = ps} s i w) =
    at_add (once p) (passes ps) m lines
    ∙ ap₂ (λ (x y : ℤ). x +ℤ y) (at_once lines rs p i m) (at_walk lines rs r m w)
    ∙ telescope (unit m (start p)) (unit m (stop p)) (unit m r)
    ∙ ap (λ (x : ℕ). unit m r +ℤ neg_ℤ (unit m x)) s

-- so a closed walk is balanced at every mark
pub at_closed : (lines : List Line) → Rising lines → (r m : ℕ) {w : List Pass} → Walk lines r r w → at (passes w) m lines ≡ pos 0
at_closed lines rs r m w = at_walk lines rs r m w ∙ +ℤ_invr (unit m r)

-- ---- sums of multiples

-- the sum of multiples of zeros is 0
pub sum_of_zeros : (ks zs : List ℤ) → ((z : ℤ) → Memᴰ z zs → z ≡ pos 0) → sum_of ks zs ≡ pos 0
unfolding sum_of
sum_of_zeros [] zs h = refl
sum_of_zeros (k ∷ ks) [] h = refl
sum_of_zeros (k ∷ ks) (z ∷ zs) h =
    rw (h z (Memᴰ.head refl), *ℤ-zero k, sum_of_zeros ks zs (λ x i. h x (Memᴰ.tail i)))

-- the loops' passes over a line, each times its own of the multiples, are such a sum
pub combine_is_sum : (ks : List ℤ) (ls : List Loop) (n : ℕ) → combine ks ls n ≡ sum_of ks (map (λ l. passes l n) ls)
unfolding combine sum_of
combine_is_sum [] ls n = refl
combine_is_sum (k ∷ ks) [] n = refl
combine_is_sum (k ∷ ks) (l ∷ ls) n = ap (λ (z : ℤ). k *ℤ passes l n +ℤ z) (combine_is_sum ks ls n)

-- and their misclosures
pub misclosures_are_sum : (ks : List ℤ) (ls : List Loop) → combine_misclosures ks ls ≡ sum_of ks (map misclosure ls)
unfolding combine_misclosures sum_of
misclosures_are_sum [] ls = refl
misclosures_are_sum (k ∷ ks) [] = refl
misclosures_are_sum (k ∷ ks) (l ∷ ls) = ap (λ (z : ℤ). k *ℤ misclosure l +ℤ z) (misclosures_are_sum ks ls)
