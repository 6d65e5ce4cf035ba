-- What every visit keeps, a sweep keeps, and all sweeps keep. A sweep in which nothing moved left every height as it was.
-- Assumes nothing.
use Prim.Native.Nat.{ℕ, zero, suc, ◌-◌, ◌≤◌, ◌<◌}
use native.Mathlib.Nat.{eq-or-lt_of_le, le_of_suc-le-suc}
use native.Mathlib.Omega.{arith}
use mathlib.Core.Path.{◌≡◌, refl, sym, ◌∙◌, subst}
use mathlib.Core.Logic.{⊎_elim}
use mathlib.Core.Bool.{Bool, true, false, true≢false}
use mathlib.Core.List.{List}
use lib.Seq.{set-get_or}
use lib.IntN.{ℤ, pos, ◌+ℤ◌, +ℤ_idr}
use Rattle.laws.specs.Tests.{eq_z}
use Rattle.book.specs.Height.{work_height_out}
use Rattle.fields.specs.Heights.{height, set_height}
use Rattle.sights.specs.Sights.{Sight}
use Rattle.sweeps.specs.Sweeps.{move_of, Swept, still, moved, placed, visited, has_moved, visit, sweep, Settled, onward, settle_from}
use Rattle.sweeps.specs.Squares.{move_mark}
use Rattle.sweeps.specs.Kept.{Kept, KeptTo}
use Rattle.laws.proofs.Inside.{eq_z_true}

module _ (P : List ℤ → Type 0) where
  placed_kept : (o s : Bool) (m : ℕ) (z : ℤ) (hs : List ℤ) → (o ≡ false → P (set_height hs m z)) → Kept P (placed o s m z hs)
  placed_kept true s m z hs h = tt
  placed_kept false true m z hs h = h refl
  placed_kept false false m z hs h = h refl

  -- a visit moves its mark to a height inside its limit, or answers that it is outside
  pub visited_kept : (ss : List Sight) (hs : List ℤ) (m : ℕ)
      → (work_height_out (height hs m +ℤ move_of ss hs m) ≡ false → P (move_mark hs m (move_of ss hs m))) → Kept P (visited ss hs m)
  unfolding visited
  visited_kept ss hs m h =
      placed_kept (work_height_out (height hs m +ℤ move_of ss hs m)) (eq_z (move_of ss hs m) (pos 0)) m
      (height hs m +ℤ move_of ss hs m) hs h

  moved_kept : (s : Swept) → Kept P s → Kept P (has_moved s)
  moved_kept (still hs) h = h
  moved_kept (moved hs) h = h
  moved_kept (Swept.outside m) h = h

  visit_kept : (held : Bool) (ss : List Sight) (m : ℕ) (s : Swept) → Kept P s
      → ((hs : List ℤ) → held ≡ false → P hs → Kept P (visited ss hs m)) → Kept P (visit held ss m s)
  visit_kept true ss m s h v = h
  visit_kept false ss m (still hs) h v = v hs refl h
  visit_kept false ss m (moved hs) h v = moved_kept (visited ss hs m) (v hs refl h)
  visit_kept false ss m (Swept.outside k) h v = tt

module _ (sights : ℕ → List Sight) (is_held : ℕ → Bool) where
  -- every visit of a free mark keeps P
  abbrev pub VisitsKeep : (List ℤ → Type 0) → ℕ → Type 0
  VisitsKeep P b = (m : ℕ) (hs : List ℤ) → 0 < m → m ≤ b → is_held m ≡ false → P hs → Kept P (visited (sights m) hs m)

  pub sweep_keeps : (P : List ℤ → Type 0) (k : ℕ) → VisitsKeep P k → (hs : List ℤ) → P hs → Kept P (sweep sights is_held hs k)
  unfolding sweep
  sweep_keeps P zero v hs h = h
  sweep_keeps P (suc k) v hs h =
      visit_kept P (is_held (suc k)) (sights (suc k)) (suc k) (sweep sights is_held hs k)
      (sweep_keeps P k (λ m gs l u. v m gs l (omega arith)) hs h) (λ gs e p. v (suc k) gs (omega arith) (omega arith) e p)

  onward_kept : (P : List ℤ → Type 0) (s : Swept) (n : ℕ) (more : List ℤ → Settled) → Kept P s
      → ((hs : List ℤ) → P hs → KeptTo P (more hs)) → KeptTo P (onward s n more)
  onward_kept P (still hs) n more h g = h
  onward_kept P (moved hs) n more h g = g hs h
  onward_kept P (Swept.outside m) n more h g = tt

  pub settle_keeps : (P : List ℤ → Type 0) (b : ℕ) → VisitsKeep P b → (k n : ℕ) (hs : List ℤ) → P hs
      → KeptTo P (settle_from sights is_held b k n hs)
  unfolding settle_from
  settle_keeps P b v zero n hs h = tt
  settle_keeps P b v (suc k) n hs h =
      onward_kept P (sweep sights is_held hs b) n (λ gs. settle_from sights is_held b k (suc n) gs) (sweep_keeps P b v hs h)
      (λ gs p. settle_keeps P b v k (suc n) gs p)

  -- A sweep over the marks 1 to k that moved nothing
  pub record Quiet (hs gs : List ℤ) (k : ℕ) : Type 0 where
    pub same : gs ≡ hs
    pub stays : (m : ℕ) → 0 < m → m ≤ k → is_held m ≡ false → move_of (sights m) hs m ≡ pos 0

  -- P says that nothing has moved
  abbrev IfStill : (List ℤ → Type 0) → Swept → Type 0
  IfStill P (still hs) = P hs
  IfStill P (moved hs) = Unit {0}
  IfStill P (Swept.outside m) = Unit {0}

  placed_still : (P : List ℤ → Type 0) (o s : Bool) (m : ℕ) (z : ℤ) (hs : List ℤ) → (s ≡ true → P (set_height hs m z))
      → IfStill P (placed o s m z hs)
  placed_still P true s m z hs h = tt
  placed_still P false true m z hs h = h refl
  placed_still P false false m z hs h = tt

  moved_never : (P : List ℤ → Type 0) (s : Swept) → IfStill P (has_moved s)
  moved_never P (still hs) = tt
  moved_never P (moved hs) = tt
  moved_never P (Swept.outside m) = tt

  quiet_more : (hs gs : List ℤ) (k : ℕ) → Quiet hs gs k → (is_held (suc k) ≡ false → move_of (sights (suc k)) hs (suc k) ≡ pos 0)
      → Quiet hs gs (suc k)
  quiet_more hs gs k q z = record {
    same = q.same;
    stays = λ m l u e. ⊎_elim (λ (p : m ≡ suc k). subst (λ (x : ℕ). is_held x ≡ false → move_of (sights x) hs x ≡ pos 0) (sym p) z e)
        (λ (p : m < suc k). q.stays m l (le_of_suc-le-suc p) e) (eq-or-lt_of_le u);
  }

  visited_still : (hs gs : List ℤ) (k : ℕ) → Quiet hs gs k → IfStill (λ fs. Quiet hs fs (suc k)) (visited (sights (suc k)) gs (suc k))
  unfolding visited
  visited_still hs gs k q =
      let m = suc k in
      let d = move_of (sights m) gs m in
      placed_still (λ fs. Quiet hs fs m) (work_height_out (height gs m +ℤ d)) (eq_z d (pos 0)) m (height gs m +ℤ d) gs
      (λ e.
      let z : d ≡ pos 0 = eq_z_true d (pos 0) e in
      let s : set_height gs m (height gs m +ℤ d) ≡ gs = rw (z, +ℤ_idr) (set-get_or gs (m - 1) (pos 0)) in
      rw s (quiet_more hs gs k q (λ _. subst (λ (x : List ℤ). move_of (sights m) x m ≡ pos 0) q.same z)))

  visit_still : (hs : List ℤ) (k : ℕ) (held : Bool) → is_held (suc k) ≡ held → (s : Swept) → IfStill (λ gs. Quiet hs gs k) s
      → IfStill (λ gs. Quiet hs gs (suc k)) (visit held (sights (suc k)) (suc k) s)
  visit_still hs k true e (still gs) q = quiet_more hs gs k q (λ f. absurd (true≢false (sym e ∙ f)))
  visit_still hs k true e (moved gs) q = tt
  visit_still hs k true e (Swept.outside m) q = tt
  visit_still hs k false e (still gs) q = visited_still hs gs k q
  visit_still hs k false e (moved gs) q = moved_never (λ fs. Quiet hs fs (suc k)) (visited (sights (suc k)) gs (suc k))
  visit_still hs k false e (Swept.outside m) q = tt

  pub sweep_quiet : (hs : List ℤ) (k : ℕ) → IfStill (λ gs. Quiet hs gs k) (sweep sights is_held hs k)
  unfolding sweep
  sweep_quiet hs zero = record { same = refl; stays = λ m l u e. absurd (omega arith) }
  sweep_quiet hs (suc k) = visit_still hs k (is_held (suc k)) refl (sweep sights is_held hs k) (sweep_quiet hs k)

  onward_quiet : (b : ℕ) (hs : List ℤ) (s : Swept) (n : ℕ) (more : List ℤ → Settled) → IfStill (λ gs. Quiet hs gs b) s
      → ((gs : List ℤ) → KeptTo (λ fs. Quiet fs fs b) (more gs)) → KeptTo (λ fs. Quiet fs fs b) (onward s n more)
  onward_quiet b hs (still gs) n more q g =
      subst (λ (x : List ℤ). Quiet x x b) (sym q.same) (subst (λ (x : List ℤ). Quiet hs x b) q.same q)
  onward_quiet b hs (moved gs) n more q g = g gs
  onward_quiet b hs (Swept.outside m) n more q g = tt

  -- where the sweeps settle, no free mark would move
  pub settle_quiet : (b k n : ℕ) (hs : List ℤ) → KeptTo (λ gs. Quiet gs gs b) (settle_from sights is_held b k n hs)
  unfolding settle_from
  settle_quiet b zero n hs = tt
  settle_quiet b (suc k) n hs =
      onward_quiet b hs (sweep sights is_held hs b) n (λ gs. settle_from sights is_held b k (suc n) gs) (sweep_quiet hs b)
      (λ gs. settle_quiet b k (suc n) gs)
