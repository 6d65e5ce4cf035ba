-- The misclosure of a closed walk is the sum of the same multiples of the loops' misclosures. Assumes nothing.
use Prim.Native.Nat.{ℕ}
use native.Mathlib.Omega.{arith}
use mathlib.Core.Path.{◌≡◌, refl, sym, ◌∙◌, ap, ap₂, subst}
use mathlib.Core.Bool.{Bool, true, false}
use mathlib.Core.List.{List, [], ◌∷◌, Memᴰ}
use lib.IntN.{ℤ, pos, negsuc, neg_ℤ, ◌+ℤ◌, ◌*ℤ◌, suc_ℤ, pred_ℤ, +ℤ_idl, +ℤ_idr, +ℤ_one, -ℤ_one, zero-*ℤ, *ℤ-zero, *ℤ-one, *ℤ_comm, suc_ℤ-*ℤ}
use lib.IntN.{pred_ℤ-*ℤ, one, ℤ_ind}
use borrow.Author.Tests.{eq-eqb, ne_eqb}
use Rattle.network.specs.Standing.{Line}
use Rattle.network.specs.Sound.{Rising, then, Sound}
use Rattle.network.specs.Walk.{Pass, Walk, here, step}
use Rattle.loops.specs.Loops.{Loop, loops}
use Rattle.loops.specs.Row.{signed, misclosure}
use Rattle.loops.specs.Passes.{sense, once, passes, combine, combine_misclosures, SumOf}
use Rattle.loops.proofs.Passes.{four, *ℤ_distrib, *ℤ_neg}
use Rattle.loops.proofs.Basis.{AllClosed, minus_one, all_closed, basis}

-- ---- the product's factors change places

module _ (k x : ℤ) where
  Swap : ℤ → Type 0
  Swap d = d *ℤ (k *ℤ x) ≡ k *ℤ (d *ℤ x)

  swap_suc : (d : ℤ) → Swap d → Swap (suc_ℤ d)
  unfolding Swap
  swap_suc d h = rw (suc_ℤ-*ℤ d (k *ℤ x), suc_ℤ-*ℤ d x, h) (sym (*ℤ_distrib (d *ℤ x) x k))

  swap_pred : (d : ℤ) → Swap d → Swap (pred_ℤ d)
  unfolding Swap
  swap_pred d h =
      rw (pred_ℤ-*ℤ d (k *ℤ x), pred_ℤ-*ℤ d x, h) (sym (*ℤ_distrib (d *ℤ x) (neg_ℤ x) k ∙ ap (λ (z : ℤ). k *ℤ (d *ℤ x) +ℤ z) (*ℤ_neg k x)))

  -- d*(k*x) is k*(d*x)
  pub *ℤ_swap : (d : ℤ) → d *ℤ (k *ℤ x) ≡ k *ℤ (d *ℤ x)
  unfolding Swap
  *ℤ_swap d = ℤ_ind Swap (rw (zero-*ℤ (k *ℤ x), zero-*ℤ x, *ℤ-zero k))
      (λ n h. subst Swap (sym (+ℤ_one (pos n))) (swap_suc (pos n) h))
      (λ n h. subst Swap (sym (-ℤ_one (neg_ℤ (pos n)))) (swap_pred (neg_ℤ (pos n)) h)) d

-- ---- the sum of the lines' differences, each as often as f says

-- what the differences sum to where f says how often each line is run
unfoldable pub spread : (ℕ → ℤ) → List Line → ℤ
spread f [] = pos 0
spread f (l ∷ ls) = l.difference *ℤ f l.number +ℤ spread f ls

spread_same : (f g : ℕ → ℤ) (lines : List Line) → ((l : Line) → Memᴰ l lines → f l.number ≡ g l.number)
    → spread f lines ≡ spread g lines
unfolding spread
spread_same f g [] h = refl
spread_same f g (l ∷ ls) h =
    ap₂ (λ (x y : ℤ). l.difference *ℤ x +ℤ y) (h l (Memᴰ.head refl)) (spread_same f g ls (λ k i. h k (Memᴰ.tail i)))

spread_zero : (f : ℕ → ℤ) (lines : List Line) → ((l : Line) → Memᴰ l lines → f l.number ≡ pos 0) → spread f lines ≡ pos 0
unfolding spread
spread_zero f [] h = refl
spread_zero f (l ∷ ls) h =
    ap₂ (λ (x y : ℤ). x +ℤ y) (ap (λ (x : ℤ). l.difference *ℤ x) (h l (Memᴰ.head refl)) ∙ *ℤ-zero l.difference)
    (spread_zero f ls (λ k i. h k (Memᴰ.tail i)))

spread_add : (f g : ℕ → ℤ) (lines : List Line) → spread (λ n. f n +ℤ g n) lines ≡ spread f lines +ℤ spread g lines
unfolding spread
spread_add f g [] = refl
spread_add f g (l ∷ ls) =
    rw (*ℤ_distrib (f l.number) (g l.number) l.difference, spread_add f g ls)
    (four (l.difference *ℤ f l.number) (l.difference *ℤ g l.number) (spread f ls) (spread g ls))

spread_mul : (k : ℤ) (f : ℕ → ℤ) (lines : List Line) → spread (λ n. k *ℤ f n) lines ≡ k *ℤ spread f lines
unfolding spread
spread_mul k f [] = sym (*ℤ-zero k)
spread_mul k f (l ∷ ls) =
    rw (*ℤ_swap k (f l.number) l.difference, spread_mul k f ls) (sym (*ℤ_distrib (l.difference *ℤ f l.number) (spread f ls) k))

-- ---- a walk's misclosure is the sum of the differences, each as often as it is run

-- a number times the sense of a pass is the number in that sense
pub times_sense : (z : ℤ) (f : Bool) → z *ℤ sense f ≡ signed f z
unfolding one
times_sense z true = *ℤ-one z
times_sense z false = *ℤ_comm z (negsuc 0) ∙ minus_one z

once_other : (p : Pass) (n : ℕ) → (p.line.number ≡ n → ⊥) → once p n ≡ pos 0
unfolding once
once_other p n d = rw (ne_eqb p.line.number n d)

spread_once : (p : Pass) (lines : List Line) → Rising lines → Memᴰ p.line lines
    → spread (once p) lines ≡ signed p.forward p.line.difference
unfolding spread once
spread_once p [] _ m = elim m [ ]
spread_once p (l ∷ ls) (then above r) (Memᴰ.head e) =
    rw (
      eq-eqb p.line.number l.number (ap (λ (x : Line). x.number) e),
      spread_zero (once p) ls (λ k i. once_other p k.number (λ z. omega (arith, above k i, z, ap (λ (x : Line). x.number) e))),
      times_sense l.difference p.forward,
      +ℤ_idr,
    )
    (ap (λ (x : Line). signed p.forward x.difference) (sym e))
spread_once p (l ∷ ls) (then above r) (Memᴰ.tail i) =
    rw (ne_eqb p.line.number l.number (λ z. omega (arith, above p.line i, z)), *ℤ-zero l.difference, +ℤ_idl)
    (spread_once p ls r i)

misclosure_spread : {lines : List Line} → Rising lines → {r u : ℕ} {w : List Pass} → Walk lines r u w
    → misclosure w ≡ spread (passes w) lines
unfolding misclosure passes
misclosure_spread {lines = lines} rising (here e) = sym (spread_zero (λ n. pos 0) lines (λ l i. refl))
misclosure_spread {lines = lines} rising (step {p = p} {ps = ps} s m w) =
    ap₂ (λ (x y : ℤ). x +ℤ y) (sym (spread_once p lines rising m)) (misclosure_spread rising w)
    ∙ sym (spread_add (once p) (passes ps) lines)

combine_spread : {lines : List Line} → Rising lines → (ks : List ℤ) (ls : List Loop) → AllClosed lines ls
    → spread (combine ks ls) lines ≡ combine_misclosures ks ls
unfolding combine combine_misclosures
combine_spread {lines = lines} rising [] ls c = spread_zero (λ n. pos 0) lines (λ l i. refl)
combine_spread {lines = lines} rising (k ∷ ks) [] c = spread_zero (λ n. pos 0) lines (λ l i. refl)
combine_spread {lines = lines} rising (k ∷ ks) (l ∷ ls) c =
    spread_add (λ n. k *ℤ passes l n) (combine ks ls) lines
    ∙ ap₂ (λ (x y : ℤ). x +ℤ y)
    (spread_mul k (passes l) lines ∙ ap (λ (z : ℤ). k *ℤ z) (sym (misclosure_spread rising (c l (Memᴰ.head refl)).1)))
    (combine_spread rising ks ls (λ lp i. c lp (Memᴰ.tail i)))

no_misclosure : (ks : List ℤ) (ls : List Loop) → ((lp : Loop) → Memᴰ lp ls → misclosure lp ≡ pos 0) → combine_misclosures ks ls ≡ pos 0
unfolding combine_misclosures
no_misclosure [] ls h = refl
no_misclosure (k ∷ ks) [] h = refl
no_misclosure (k ∷ ks) (l ∷ ls) h =
    ap₂ (λ (x y : ℤ). x +ℤ y) (ap (λ (z : ℤ). k *ℤ z) (h l (Memᴰ.head refl)) ∙ *ℤ-zero k)
    (no_misclosure ks ls (λ lp i. h lp (Memᴰ.tail i)))

-- ---- the theorems

module _ (b : ℕ) (lines : List Line) (sound : Sound b lines) where
  -- the misclosure of a closed walk is the sum of the same multiples of the loops' misclosures
  pub misclosure_is_sum : (r : ℕ) {w : List Pass} → Walk lines r r w → (ks : List ℤ) → SumOf lines (loops b lines) w ks
      → misclosure w ≡ combine_misclosures ks (loops b lines)
  misclosure_is_sum r {w = w} x ks s =
      misclosure_spread sound.rising x
      ∙ spread_same (passes w) (combine ks (loops b lines)) lines s.passes_are
      ∙ combine_spread sound.rising ks (loops b lines) (all_closed b lines sound)

  -- so where every loop's misclosure is 0, every closed walk sums to 0
  pub all_close : ((lp : Loop) → Memᴰ lp (loops b lines) → misclosure lp ≡ pos 0) → (r : ℕ) {w : List Pass} → Walk lines r r w
      → misclosure w ≡ pos 0
  all_close h r x = let s = basis b lines sound r x in misclosure_is_sum r x s.0 s.1 ∙ no_misclosure s.0 (loops b lines) h
