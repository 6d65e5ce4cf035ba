-- A line is run in a reported loop exactly if a closed circuit that uses each line at most once passes through it. Assumes nothing.
use Prim.Native.Nat.{ℕ, ◌<◌}
use native.Mathlib.Omega.{arith}
use mathlib.Core.Path.{◌≡◌, refl, sym, ◌∙◌, ap, ap₂, subst}
use mathlib.Core.Logic.{◌⊎◌, inl, inr, ◌↔◌}
use mathlib.Core.Bool.{Bool, true, false, ◌||◌, cond, true≢false, false≢true}
use mathlib.Core.List.Memᴰ
use mathlib.Core.List.{List, [], ◌∷◌, Memᴰ}
use lib.IntN.{ℤ, pos, negsuc, ◌+ℤ◌, ◌*ℤ◌, +ℤ_idl, *ℤ-zero, pos-ne-negsuc}
use lib.Dec.{eqb}
use borrow.Author.Tests.{eqb-true, eq-eqb}
use Rattle.network.specs.Standing.{Line}
use Rattle.network.specs.Sound.{Rising, none_left, then, Sound}
use Rattle.network.specs.Pairwise.{Pairwise, no_pair, pairs}
use Rattle.network.specs.Walk.{Pass, OnlyOnce}
use Rattle.network.proofs.Descent.{clash}
use Rattle.network.proofs.Subgraph.{or_true, or_right, not_in}
use Rattle.loops.specs.Loops.{Loop, loops}
use Rattle.loops.specs.Checked.{runs, checked, not_checked}
use Rattle.loops.specs.Circuit.{Circuit}
use Rattle.loops.specs.Passes.{passes, once, pass_if, sense, combine}
use Rattle.loops.proofs.EachLoop.{loop_has_closing_line}
use Rattle.loops.proofs.Basis.{passes_none, basis}

-- ---- passes of a walk that runs each line at most once

passes_one : {w : List Pass} → OnlyOnce w → (n : ℕ) → runs n w ≡ true → (passes w n ≡ pos 1) ⊎ (passes w n ≡ negsuc 0)
unfolding passes once runs
passes_one no_pair n h = absurd (false≢true h)
passes_one (pairs {a = p} {rest = ps} f o) n h =
    go (eqb p.line.number n) refl (or_true (eqb p.line.number n) (runs n ps) h) (passes_one o n)
  where
    sign : (s : Bool) (z : ℤ) → z ≡ pos 0 → (sense s +ℤ z ≡ pos 1) ⊎ (sense s +ℤ z ≡ negsuc 0)
    sign true z e = inl (ap (λ (x : ℤ). pos 1 +ℤ x) e)
    sign false z e = inr (ap (λ (x : ℤ). negsuc 0 +ℤ x) e)

    go : (t : Bool) → eqb p.line.number n ≡ t → (eqb p.line.number n ≡ true) ⊎ (runs n ps ≡ true)
        → (runs n ps ≡ true → (passes ps n ≡ pos 1) ⊎ (passes ps n ≡ negsuc 0))
        → (pass_if t (sense p.forward) +ℤ passes ps n ≡ pos 1) ⊎ (pass_if t (sense p.forward) +ℤ passes ps n ≡ negsuc 0)
    go true e x ih = sign p.forward (passes ps n) (passes_none ps n (λ q i z. f q i (eqb-true p.line.number n e ∙ sym z)))
    go false e (inl x) ih = clash x e
    go false e (inr x) ih = move (ih x)
      where
        move : (passes ps n ≡ pos 1) ⊎ (passes ps n ≡ negsuc 0) → (pos 0 +ℤ passes ps n ≡ pos 1) ⊎ (pos 0 +ℤ passes ps n ≡ negsuc 0)
        move (inl y) = inl (+ℤ_idl (passes ps n) ∙ y)
        move (inr y) = inr (+ℤ_idl (passes ps n) ∙ y)

-- a walk with a pass over line n runs line n
pub runs_mem : (n : ℕ) (w : List Pass) (p : Pass) → Memᴰ p w → p.line.number ≡ n → runs n w ≡ true
unfolding runs
runs_mem n [] p m h = elim m [ ]
runs_mem n (q ∷ qs) p (Memᴰ.head e) h = rw (eq-eqb q.line.number n (sym (ap (λ (x : Pass). x.line.number) e) ∙ h))
runs_mem n (q ∷ qs) p (Memᴰ.tail i) h = or_right (eqb q.line.number n) (runs n qs) (runs_mem n qs p i h)

-- a line that no loop runs has no pass in any sum of them
pub unchecked_zero : (ks : List ℤ) (ls : List (List Pass)) (n : ℕ) → checked n ls ≡ false → combine ks ls n ≡ pos 0
unfolding combine checked
unchecked_zero [] ls n h = refl
unchecked_zero (k ∷ ks) [] n h = refl
unchecked_zero (k ∷ ks) (l ∷ ls) n h = go (runs n l) (checked n ls) refl h (unchecked_zero ks ls n)
  where
    go : (a c : Bool) → runs n l ≡ a → (a || c) ≡ false → (c ≡ false → combine ks ls n ≡ pos 0) → k *ℤ passes l n +ℤ combine ks ls n ≡ pos 0
    go true c e x ih = absurd (true≢false x)
    go false c e x ih =
        ap₂ (λ (a b : ℤ). a +ℤ b) (ap (λ (z : ℤ). k *ℤ z) (passes_none l n (λ p i z. clash (runs_mem n l p i z) e)) ∙ *ℤ-zero k) (ih x)

-- a line that is checked is run in one of the loops
pub checked_by : (n : ℕ) (ls : List Loop) → checked n ls ≡ true → (lp : Loop) × Memᴰ lp ls × (runs n lp ≡ true)
unfolding checked
checked_by n [] h = absurd (false≢true h)
checked_by n (l ∷ ls) h = go (or_true (runs n l) (checked n ls) h) (checked_by n ls)
  where
    go : (runs n l ≡ true) ⊎ (checked n ls ≡ true) → (checked n ls ≡ true → (lp : Loop) × Memᴰ lp ls × (runs n lp ≡ true))
        → (lp : Loop) × Memᴰ lp (l ∷ ls) × (runs n lp ≡ true)
    go (inl x) ih = (l, Memᴰ.head refl, x)
    go (inr x) ih = let k = ih x in (k.0, Memᴰ.tail k.1, k.2)

-- ---- the not-checked list

-- a line that no loop runs is on the list
pub in_not_checked : (ls : List Loop) (lines : List Line) (l : Line) → Memᴰ l lines → checked l.number ls ≡ false
    → Memᴰ l.number (not_checked ls lines)
unfolding not_checked
in_not_checked ls [] l m h = elim m [ ]
in_not_checked ls (k ∷ rest) l (Memᴰ.head e) h =
    rw (ap (λ (x : Line). checked x.number ls) (sym e) ∙ h) (Memᴰ.head (ap (λ (x : Line). x.number) e))
in_not_checked ls (k ∷ rest) l (Memᴰ.tail m) h = go (checked k.number ls) (in_not_checked ls rest l m h)
  where
    go : (t : Bool) → Memᴰ l.number (not_checked ls rest)
        → Memᴰ l.number (cond t (not_checked ls rest) (k.number ∷ not_checked ls rest))
    go true i = i
    go false i = Memᴰ.tail i

-- and only such lines are
pub of_not_checked : (ls : List Loop) (lines : List Line) (n : ℕ) → Memᴰ n (not_checked ls lines)
    → (l : Line) × Memᴰ l lines × (n ≡ l.number) × (checked l.number ls ≡ false)
unfolding not_checked
of_not_checked ls [] n m = absurd (Memᴰ.not-nil m)
of_not_checked ls (k ∷ rest) n m = go (checked k.number ls) refl m (of_not_checked ls rest n)
  where
    wide : (l : Line) × Memᴰ l rest × (n ≡ l.number) × (checked l.number ls ≡ false)
        → (l : Line) × Memᴰ l (k ∷ rest) × (n ≡ l.number) × (checked l.number ls ≡ false)
    wide (l, i, e, h) = (l, Memᴰ.tail i, e, h)

    go : (t : Bool) → checked k.number ls ≡ t → Memᴰ n (cond t (not_checked ls rest) (k.number ∷ not_checked ls rest))
        → (Memᴰ n (not_checked ls rest) → (l : Line) × Memᴰ l rest × (n ≡ l.number) × (checked l.number ls ≡ false))
        → (l : Line) × Memᴰ l (k ∷ rest) × (n ≡ l.number) × (checked l.number ls ≡ false)
    go true e i ih = wide (ih i)
    go false e (Memᴰ.head x) ih = (k, Memᴰ.head refl, x, e)
    go false e (Memᴰ.tail i) ih = wide (ih i)

rising_not_checked : (ls : List Loop) {lines : List Line} → Rising lines → Pairwise (λ (m n : ℕ). m < n) (not_checked ls lines)
unfolding not_checked
rising_not_checked ls none_left = no_pair
rising_not_checked ls (then {l = l} {ls = rest} above r) = go (checked l.number ls) (rising_not_checked ls r)
  where
    later : (n : ℕ) → Memᴰ n (not_checked ls rest) → l.number < n
    later n i = let k = of_not_checked ls rest n i in omega (arith, above k.0 k.1, k.2)

    go : (t : Bool) → Pairwise (λ (m n : ℕ). m < n) (not_checked ls rest)
        → Pairwise (λ (m n : ℕ). m < n) (cond t (not_checked ls rest) (l.number ∷ not_checked ls rest))
    go true p = p
    go false p = pairs later p

-- ---- the theorems

module _ (b : ℕ) (lines : List Line) (sound : Sound b lines) where
  -- a standing line is run in a loop exactly if a circuit goes through it
  pub checked_iff_circuit : (l : Line) → Memᴰ l lines → (checked l.number (loops b lines) ≡ true) ↔ Circuit lines l.number
  checked_iff_circuit l m = (to, back (checked l.number (loops b lines)) refl)
    where
      to : checked l.number (loops b lines) ≡ true → Circuit lines l.number
      to h =
          let lp = checked_by l.number (loops b lines) h in
          let w = loop_has_closing_line b lines sound lp.0 lp.1 in
          record { from_mark = w.0.from; way = lp.0; closed = w.2.closed; once_each = w.2.no_line_twice; through = lp.2 }

      back : (t : Bool) → checked l.number (loops b lines) ≡ t → Circuit lines l.number → checked l.number (loops b lines) ≡ true
      back true e c = e
      back false e c =
          let s = basis b lines sound c.from_mark c.closed in
          let z : passes c.way l.number ≡ pos 0 = s.1.passes_are l m ∙ unchecked_zero s.0 (loops b lines) l.number e in
          absurd (hit z (passes_one c.once_each l.number c.through))
        where
          hit : {z : ℤ} → z ≡ pos 0 → (z ≡ pos 1) ⊎ (z ≡ negsuc 0) → ⊥
          hit x (inl y) = let e : ◌≡◌ {A = ℕ} 0 1 = cc in omega arith
          hit x (inr y) = pos-ne-negsuc 0 0 (sym x ∙ y)

  -- a number is on the not-checked list exactly if it is that of a standing line through which no circuit goes
  pub not_checked_iff_no_circuit : (n : ℕ)
      → Memᴰ n (not_checked (loops b lines) lines) ↔ ((l : Line) × Memᴰ l lines × (n ≡ l.number) × (Circuit lines n → ⊥))
  not_checked_iff_no_circuit n = (to, back)
    where
      to : Memᴰ n (not_checked (loops b lines) lines) → (l : Line) × Memᴰ l lines × (n ≡ l.number) × (Circuit lines n → ⊥)
      to i =
          let k = of_not_checked (loops b lines) lines n i in
          (k.0, k.1, k.2, λ c. clash ((checked_iff_circuit k.0 k.1).1 (subst (Circuit lines) k.2 c)) k.3)

      back : (l : Line) × Memᴰ l lines × (n ≡ l.number) × (Circuit lines n → ⊥) → Memᴰ n (not_checked (loops b lines) lines)
      back (l, m, e, f) =
          Memᴰ.cast e (in_not_checked (loops b lines) lines l m
          (not_in (checked l.number (loops b lines)) (λ h. f (subst (Circuit lines) (sym e) ((checked_iff_circuit l m).0 h)))))

  -- "The not-checked list goes by rising line number."
  pub not_checked_rises : Pairwise (λ (m n : ℕ). m < n) (not_checked (loops b lines) lines)
  not_checked_rises = rising_not_checked (loops b lines) sound.rising
