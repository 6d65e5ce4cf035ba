-- Held entries, taken from the last to the first, give each mark the height of the entry that names it first.
-- Assumes nothing.
use Prim.Native.Nat.{ℕ, suc, ◌+◌, ◌*◌, ◌≤◌, ◌<◌, zero-le}
use native.Mathlib.Omega.{arith}
use mathlib.Core.Path.{◌≡◌, refl, sym, ◌∙◌, ap}
use mathlib.Core.Bool.{Bool, true, false, cond}
use mathlib.Core.List.{List, [], ◌∷◌}
use mathlib.Core.Option.{some}
use lib.Dec.{eqb}
use lib.ListN.{length, get_or, set, drop, length-set, drop_of_length-le}
use lib.Seq.{get_or-set_same, get_or-set_other, drop-cons}
use lib.IntN.{ℤ, pos, nat_abs}
use borrow.Author.Tests.{eqb-true, eqb-false}
use Rattle.book.specs.Limits.{most_held_height}
use Rattle.book.specs.Held.{mark_at, height_at}
use Rattle.book.specs.Good.{HeldEntries}
use Rattle.start.specs.Start.{held_height}
use Rattle.start.specs.Along.{optional, Given, held_from, HeldPlace}
use Rattle.fields.proofs.Setting.{set_all}

module _ (held : List ℤ) where
  -- one entry more in front
  pub held_step : (i : ℕ) → i * 2 + 2 ≤ length held → (m : ℕ)
      → held_from held i m ≡ cond (eqb (nat_abs (mark_at held i)) m) (some (height_at held i)) (held_from held (i + 1) m)
  unfolding held_height
  held_step i h m =
      let e₀ : 2 * i ≡ i * 2 + 0 = omega arith in
      let e₁ : suc (2 * i) ≡ i * 2 + 1 = omega arith in
      let e₂ : suc (suc (2 * i)) ≡ 2 * (i + 1) = omega arith in
      let d : drop (2 * i) held ≡ get_or held (2 * i) (pos 0) ∷ get_or held (suc (2 * i)) (pos 0) ∷ drop (suc (suc (2 * i))) held =
      rw (drop-cons held (2 * i) (pos 0) (omega arith), drop-cons held (suc (2 * i)) (pos 0) (omega arith)) in
      rw (d, e₂, e₁, e₀)

  -- the entry at place i: the mark at place v has the height z
  module _ (flags : List Bool) (own : List ℤ) (b i v : ℕ) (z : ℤ) (p : HeldPlace held b i)
      (g : Given (held_from held (i + 1)) flags own b most_held_height)
      (ev : nat_abs (mark_at held i) ≡ suc v) (ez : z ≡ height_at held i) where
    at_mark : (u : ℕ) → u < b → (t : Bool) → eqb (nat_abs (mark_at held i)) (suc u) ≡ t
        → optional (get_or (set flags v true) u false) (get_or (set own v z) u (pos 0))
        ≡ cond t (some (height_at held i)) (held_from held (i + 1) (suc u))
    at_mark u l true e =
        let q : u ≡ v = omega (arith, eqb-true (nat_abs (mark_at held i)) (suc u) e) in
        rw (
          q,
          get_or-set_same flags v true false (omega (arith, g.flagged)),
          get_or-set_same own v z (pos 0)
              (omega (arith, g.heighted)),
          ez,
        )
    at_mark u l false e =
        let n : u ≡ v → ⊥ = λ q. eqb-false (nat_abs (mark_at held i)) (suc u) e (ev ∙ ap suc (sym q)) in
        rw (get_or-set_other flags v u true false n, get_or-set_other own v u z (pos 0) n) (g.is u l)

    pub held_more : Given (held_from held i) (set flags v true) (set own v z) b most_held_height
    held_more = record {
      flagged = simp length-set g.flagged;
      heighted = simp length-set g.heighted;
      is = λ u l. at_mark u l (eqb (nat_abs (mark_at held i)) (suc u)) refl ∙ sym (held_step i p.whole (suc u));
      size = set_all (λ (x : ℤ). nat_abs x ≤ most_held_height) own v z (pos 0) (rw ez p.good.height) g.size;
    }

  -- after the last entry
  past : {b : ℕ} (h : ℕ) → HeldEntries held b h → length held ≤ 2 * h
  past h e = omega (arith, e.whole)

  pub held_none : (flags : List Bool) (own : List ℤ) (b h : ℕ) → HeldEntries held b h → length flags ≡ b → length own ≡ b
      → ((v : ℕ) → get_or flags v false ≡ false) → ((v : ℕ) → get_or own v (pos 0) ≡ pos 0)
      → Given (held_from held h) flags own b most_held_height
  unfolding held_height
  held_none flags own b h e ef eo hf ho = record {
    flagged = ef;
    heighted = eo;
    is = λ v l. let d : drop (2 * h) held ≡ [] = drop_of_length-le held (past h e) in rw (hf v, d);
    size = λ v. rw (ho v) zero-le;
  }
