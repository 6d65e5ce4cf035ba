-- Document 01: "Then no free mark can be moved by one micrometre, either way, so that the weighted sum of squared residuals falls, and the
-- sum is no greater than at the start." Of the sweeps over a list of standing lines, from any heights.
-- Assumes nothing.
use Prim.Native.Nat.{ℕ, suc, ◌+◌, ◌*◌, ◌≤◌, ◌<◌}
use native.Mathlib.Nat.{eq-zero-or-pos, le_refl, mul_comm, mul_assoc}
use native.Mathlib.Omega.{arith}
use mathlib.Core.Path.{◌≡◌, refl, sym, ◌∙◌, ap, subst}
use mathlib.Core.Logic.{⊎_elim}
use mathlib.Core.Bool.{Bool, true, false, true≢false}
use mathlib.Core.List.{List, [], ◌∷◌, Memᴰ}
use lib.ListN.{length, length-set}
use lib.IntN.{ℤ, pos, negsuc, nat_abs, neg_ℤ, ◌+ℤ◌, ◌-ℤ◌, ◌*ℤ◌, +ℤ_assoc, -ℤ-+ℤ_cancel, neg_ℤ-neg_ℤ, zero-*ℤ}
use Rattle.laws.proofs.Ring.{neg_mul, mul_neg}
use Rattle.laws.proofs.Size.{size_mul}
use Rattle.network.specs.Standing.{Line}
use Rattle.network.specs.Sound.{Placed, Apart}
use Rattle.fields.specs.Heights.{height}
use Rattle.sights.specs.Sights.{Sight, sights_of, weights, pull}
use Rattle.divisions.specs.Nearest.{nearest_size, nearest, Nearest}
use Rattle.sweeps.specs.Sweeps.{move_of, sweep, settled, settle, max_sweeps}
use Rattle.sweeps.specs.Squares.{move_mark, squares}
use Rattle.divisions.proofs.Rounding.{nearest_is, no_rise, stays, nearest_size_lem}
use Rattle.sweeps.proofs.Moving.{moved_by, other_mark}
use Rattle.sweeps.specs.Kept.{Kept, KeptTo}
use Rattle.sweeps.proofs.Keeping.{visited_kept, VisitsKeep, sweep_keeps, settle_keeps, Quiet, settle_quiet}
use Rattle.fields.proofs.Fair.{Fairs, fairs_each}

-- an equation of whole numbers, as one of natural numbers
traded : (s' s p n : ℕ) → pos s' ≡ pos s +ℤ (pos p -ℤ pos n) → s' + n ≡ s + p
traded s' s p n e =
    let f : pos s' +ℤ pos n ≡ pos s +ℤ pos p =
    ap (λ (x : ℤ). x +ℤ pos n) e ∙ +ℤ_assoc (pos s) (pos p -ℤ pos n) (pos n) ∙ ap (λ (x : ℤ). pos s +ℤ x) (-ℤ-+ℤ_cancel (pos p) (pos n)) in
    ap nat_abs f

-- where there is no weight there is no pull
pub no_weight : (hs : List ℤ) (z : ℤ) (ss : List Sight) → weights ss ≡ 0 → pull hs z ss ≡ pos 0
unfolding weights pull
no_weight hs z [] e = refl
no_weight hs z (s ∷ ss) e =
    let w : s.weight ≡ 0 = omega arith in
    let r : weights ss ≡ 0 = omega arith in
    rw (w, zero-*ℤ, no_weight hs z ss r)

-- g times the move, and the move's square, are not negative
pull_times : (g : ℤ) (d : ℕ) → g *ℤ nearest g d ≡ pos (nat_abs g * nearest_size (nat_abs g) d)
unfolding nearest
pull_times (pos a) d = refl
pull_times (negsuc a) d = mul_neg (negsuc a) (pos (nearest_size (suc a) d)) ∙ neg_ℤ-neg_ℤ (pos (suc a * nearest_size (suc a) d))

move_square : (g : ℤ) (d : ℕ) → nearest g d *ℤ nearest g d ≡ pos (nearest_size (nat_abs g) d * nearest_size (nat_abs g) d)
unfolding nearest
move_square (pos a) d = refl
move_square (negsuc a) d =
    let q = nearest_size (suc a) d in
    neg_mul (pos q) (neg_ℤ (pos q)) ∙ ap neg_ℤ (mul_neg (pos q) (pos q)) ∙ neg_ℤ-neg_ℤ (pos (q * q))

-- "the mark moves by g/D to the nearest whole number" never raises the sum; where D is 0 so is g
not_more : (a d : ℕ) → (d ≡ 0 → a ≡ 0) → d * (nearest_size a d * nearest_size a d) ≤ 2 * (a * nearest_size a d)
not_more a d z =
    let q = nearest_size a d in
    ⊎_elim (λ (e : d ≡ 0). let h : d * (q * q) ≡ 0 = rw e (omega arith) in omega arith)
    (λ (p : 0 < d). let h = no_rise a d q (nearest_is a d p) in omega (arith, mul_comm d (q * q), mul_assoc q q d))
    (eq-zero-or-pos d)

-- x is g times a move of 1 either way, and twice g is at most D
not_lower : (x : ℤ) (D s s' : ℕ) → 2 * nat_abs x ≤ D → pos s' ≡ pos s +ℤ (pos D *ℤ pos 1 -ℤ pos 2 *ℤ x) → s ≤ s'
not_lower (pos a) D s s' h e = let t = traded s' s (D * 1) (2 * a) e in omega arith
not_lower (negsuc a) D s s' h e =
    let t : s' ≡ s + (D * 1 + 2 * suc a) = ap nat_abs (rw (neg_ℤ-neg_ℤ (pos (2 * suc a))) at e) in
    omega arith

-- A list of standing lines of b marks: each between two different marks of 1 to b
pub record Sound (b : ℕ) (lines : List Line) : Type 0 where
  pub placed : (l : Line) → Memᴰ l lines → Placed b l
  pub apart : Apart lines

module _ (b : ℕ) (lines : List Line) (sound : Sound b lines) where
  module _ (hs : List ℤ) (m : ℕ) (low : 0 < m) (high : m ≤ length hs) where
    g : ℤ
    g = pull hs (height hs m) (sights_of lines m)

    D : ℕ
    D = weights (sights_of lines m)

    -- the sums before and after a move by d
    by : (d : ℤ) → pos (squares lines (move_mark hs m d)) ≡ pos (squares lines hs) +ℤ (pos D *ℤ (d *ℤ d) -ℤ pos 2 *ℤ (g *ℤ d))
    unfolding g D
    by d = moved_by hs m d low high b lines sound.placed sound.apart

    zero_pull : D ≡ 0 → nat_abs g ≡ 0
    unfolding g D
    zero_pull e = ap nat_abs (no_weight hs (height hs m) (sights_of lines m) e)

    -- no visit raises the sum
    pub visit_not_worse : squares lines (move_mark hs m (move_of (sights_of lines m) hs m)) ≤ squares lines hs
    unfolding g D move_of
    visit_not_worse =
        let q = nearest_size (nat_abs g) D in
        let s' = squares lines (move_mark hs m (nearest g D)) in
        let t : s' + 2 * (nat_abs g * q) ≡ squares lines hs + D * (q * q) =
        traded s' (squares lines hs) (D * (q * q)) (2 * (nat_abs g * q)) (rw (pull_times g D, move_square g D) at (by (nearest g D)))
        in
        let h = not_more (nat_abs g) D zero_pull in
        omega arith

    -- where a mark does not move, one micrometre either way does not lower the sum
    one_more_not_better : (d : ℤ) → d *ℤ d ≡ pos 1 → nat_abs d ≡ 1 → move_of (sights_of lines m) hs m ≡ pos 0
        → squares lines hs ≤ squares lines (move_mark hs m d)
    unfolding g D move_of
    one_more_not_better d one size e =
        let q : nearest_size (nat_abs g) D ≡ 0 = sym (nearest_size_lem g D) ∙ ap nat_abs e in
        let x : nat_abs (g *ℤ d) ≡ nat_abs g = size_mul g d ∙ rw size (omega arith) in
        let h : 2 * nat_abs g ≤ D =
        ⊎_elim (λ (z : D ≡ 0). let k = zero_pull z in omega arith)
        (λ (p : 0 < D). stays (nat_abs g) D (subst (Nearest (nat_abs g) D) q (nearest_is (nat_abs g) D p))) (eq-zero-or-pos D) in
        not_lower (g *ℤ d) D (squares lines hs) (squares lines (move_mark hs m d)) (omega arith) (by d ∙ rw one)

    -- A mark that a sweep would not move is at its best place
    pub record BestHere : Type 0 where
      pub not_up : squares lines hs ≤ squares lines (move_mark hs m (pos 1))
      pub not_down : squares lines hs ≤ squares lines (move_mark hs m (negsuc 0))

    pub best_here : move_of (sights_of lines m) hs m ≡ pos 0 → BestHere
    best_here e = record { not_up = one_more_not_better (pos 1) refl refl e; not_down = one_more_not_better (negsuc 0) refl refl e }

  -- heights of b marks whose sum is at most s
  NotOver : ℕ → List ℤ → Type 0
  NotOver s hs = (length hs ≡ b) × (squares lines hs ≤ s)

  module _ (is_held : ℕ → Bool) where
    visits_not_worse : (s : ℕ) → VisitsKeep (sights_of lines) is_held (NotOver s) b
    unfolding NotOver
    visits_not_worse s m hs low high free p =
        visited_kept (NotOver s) (sights_of lines m) hs m
        (λ _.
        let h = visit_not_worse hs m low (omega arith) in
        (simp length-set p.0, omega arith))

    -- "no sweep raises it"
    pub sweep_not_worse : (hs : List ℤ) → length hs ≡ b
        → Kept (λ gs. (length gs ≡ b) × (squares lines gs ≤ squares lines hs)) (sweep (sights_of lines) is_held hs b)
    unfolding NotOver
    sweep_not_worse hs e =
        sweep_keeps (sights_of lines) is_held (NotOver (squares lines hs)) b (visits_not_worse (squares lines hs)) hs
        (e, le_refl (squares lines hs))

    -- "the sum is no greater than at the start"
    pub settled_not_worse : (hs : List ℤ) → length hs ≡ b
        → KeptTo (λ gs. (length gs ≡ b) × (squares lines gs ≤ squares lines hs)) (settle (sights_of lines) is_held b hs)
    unfolding NotOver settle
    settled_not_worse hs e =
        settle_keeps (sights_of lines) is_held (NotOver (squares lines hs)) b (visits_not_worse (squares lines hs)) max_sweeps 0 hs
        (e, le_refl (squares lines hs))

    -- held marks keep their heights
    KeepsHeld : List ℤ → List ℤ → Type 0
    KeepsHeld hs gs = (length gs ≡ b) × ((m : ℕ) → 0 < m → is_held m ≡ true → height gs m ≡ height hs m)

    visits_keep_held : (hs : List ℤ) → VisitsKeep (sights_of lines) is_held (KeepsHeld hs) b
    unfolding KeepsHeld
    visits_keep_held hs m gs low high free p =
        visited_kept (KeepsHeld hs) (sights_of lines m) gs m
        (λ _. (
          simp length-set p.0,
          λ k l held.
              other_mark gs m (move_of (sights_of lines m) gs m) low (omega arith) k l
              (λ (e : k ≡ m). true≢false (sym held ∙ ap is_held e ∙ free))
              ∙ p.1 k l held,
        ))

    pub settled_keeps_held : (hs : List ℤ) → length hs ≡ b
        → KeptTo (λ gs. (length gs ≡ b) × ((m : ℕ) → 0 < m → is_held m ≡ true → height gs m ≡ height hs m))
        (settle (sights_of lines) is_held b hs)
    unfolding KeepsHeld settle
    settled_keeps_held hs e =
        settle_keeps (sights_of lines) is_held (KeepsHeld hs) b (visits_keep_held hs) max_sweeps 0 hs (e, λ m l h. refl)

    -- "no free mark can be moved by one micrometre, either way, so that the weighted sum of squared residuals falls"
    pub settled_best : (hs : List ℤ) → length hs ≡ b → (n : ℕ) (gs : List ℤ) → settle (sights_of lines) is_held b hs ≡ settled n gs
        → (m : ℕ) (low : 0 < m) (high : m ≤ b) → is_held m ≡ false
        → (squares lines gs ≤ squares lines (move_mark gs m (pos 1))) × (squares lines gs ≤ squares lines (move_mark gs m (negsuc 0)))
    unfolding settle
    settled_best hs e n gs f m low high free =
        let q : Quiet (sights_of lines) is_held gs gs b =
        subst (KeptTo (λ fs. Quiet (sights_of lines) is_held fs fs b)) f (settle_quiet (sights_of lines) is_held b max_sweeps 0 hs) in
        let l = subst (KeptTo (λ fs. (length fs ≡ b) × (squares lines fs ≤ squares lines hs))) f (settled_not_worse hs e) in
        let r = best_here gs m low (omega arith) (q.stays m low high free) in
        (r.not_up, r.not_down)

-- the standing lines of a tested book
pub fairs_sound : {b k : ℕ} {ls : List Line} → Fairs b k ls → Sound b ls
fairs_sound fs = record { placed = λ l m. (fairs_each fs l m).placed; apart = λ l m. (fairs_each fs l m).apart }
