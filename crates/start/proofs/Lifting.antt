-- The lowest held mark of a piece gives its root a height.
-- Assumes nothing.
use Prim.Native.Nat.{ℕ, suc, ◌+◌, ◌-◌, ◌≤◌, ◌<◌, zero-le}
use native.Mathlib.Numerals.{add-one}
use native.Mathlib.Omega.{arith}
use mathlib.Core.Path.{◌≡◌, refl, sym, ◌∙◌, ap}
use mathlib.Core.Bool.{Bool, true, false}
use mathlib.Core.List.{List}
use mathlib.Core.Option.{Option, none, some}
use lib.Dec.{eqb}
use lib.ListN.{get_or, set, length-set}
use lib.Seq.{get_or-set_same, get_or-set_other}
use lib.IntN.{ℤ, pos, nat_abs, ◌-ℤ◌}
use borrow.Author.Tests.{eqb-true, eqb-false}
use Rattle.laws.proofs.Size.{size_sub}
use Rattle.start.specs.Start.{Rooted, rooted, root_height}
use Rattle.start.specs.Along.{optional, Given, spots, roots_from, most_root, gives, Known, Blank}
use Rattle.fields.proofs.Setting.{set_all, place}

module _ (at : ℕ → Rooted) (held : ℕ → Option ℤ) where
  pub free_mark : (r m k : ℕ) → held m ≡ none → root_height at held r m (suc k) ≡ root_height at held r (suc m) k
  unfolding root_height
  free_mark r m k e = rw (e, root_height)

  pub held_here : (r m k : ℕ) (z : ℤ) → held m ≡ some z → eqb (at m).root r ≡ true
      → root_height at held r m (suc k) ≡ some (z -ℤ (at m).over)
  unfolding root_height
  held_here r m k z e f = rw (e, root_height, f)

  pub held_elsewhere : (r m k : ℕ) (z : ℤ) → held m ≡ some z → eqb (at m).root r ≡ false
      → root_height at held r m (suc k) ≡ root_height at held r (suc m) k
  unfolding root_height
  held_elsewhere r m k z e f = rw (e, root_height, f)

module _ (flags : List Bool) (own : List ℤ) (root : List ℕ) (over : List ℤ) (has : List Bool) (base : List ℤ) (b v : ℕ)
    (known : Known flags own root over b) (l : v < b) (g : Given (roots_from (spots root over) (gives flags own) b (v + 1)) has base b
    most_root) where
  left : b - v ≡ suc (b - (v + 1))
  left = omega arith

  gives_here : gives flags own (suc v) ≡ optional (get_or flags v false) (get_or own v (pos 0))
  gives_here = ap (λ (i : ℕ). optional (get_or flags i false) (get_or own i (pos 0))) (place v)

  spot_here : spots root over (suc v) ≡ rooted (get_or root v 0) (get_or over v (pos 0))
  spot_here = ap (λ (i : ℕ). rooted (get_or root i 0) (get_or over i (pos 0))) (place v)

  rest : (r : ℕ)
      → root_height (spots root over) (gives flags own) r (suc (suc v)) (b - (v + 1))
      ≡ roots_from (spots root over) (gives flags own) b (v + 1) r
  rest r = rw add-one

  free_root : get_or flags v false ≡ false → (r : ℕ)
      → roots_from (spots root over) (gives flags own) b v r ≡ roots_from (spots root over) (gives flags own) b (v + 1) r
  free_root e r =
      ap (root_height (spots root over) (gives flags own) r (suc v)) left
      ∙ free_mark (spots root over) (gives flags own) r (suc v) (b - (v + 1))
      (gives_here ∙ ap (λ (t : Bool). optional t (get_or own v (pos 0))) e) ∙ rest r

  pub lift_free : get_or flags v false ≡ false → Given (roots_from (spots root over) (gives flags own) b v) has base b most_root
  lift_free e = record {
    flagged = g.flagged;
    heighted = g.heighted;
    is = λ u h. g.is u h ∙ sym (free_root e (suc u));
    size = g.size;
  }

  module _ (e : get_or flags v false ≡ true) (z : ℤ) (ez : z ≡ get_or own v (pos 0) -ℤ get_or over v (pos 0)) where
    gives_own : gives flags own (suc v) ≡ some (get_or own v (pos 0))
    gives_own = gives_here ∙ ap (λ (t : Bool). optional t (get_or own v (pos 0))) e

    root_low : 0 < get_or root v 0
    root_low = (known.spotted.marks v l).0

    value : z ≡ get_or own v (pos 0) -ℤ (spots root over (suc v)).over
    value = ez ∙ ap (λ (s : Rooted). get_or own v (pos 0) -ℤ s.over) (sym spot_here)

    at_root_lem : (u : ℕ) → u < b → (t : Bool) → eqb (get_or root v 0) (suc u) ≡ t
        → optional (get_or (set has (get_or root v 0 - 1) true) u false) (get_or (set base (get_or root v 0 - 1) z) u (pos 0))
        ≡ roots_from (spots root over) (gives flags own) b v (suc u)
    at_root_lem u h true t =
        let q : get_or root v 0 - 1 ≡ u = omega (arith, eqb-true (get_or root v 0) (suc u) t) in
        let s : eqb (spots root over (suc v)).root (suc u) ≡ true = ap (λ (x : Rooted). eqb x.root (suc u)) spot_here ∙ t in
        rw (q, get_or-set_same has u true false (omega (arith, g.flagged)), get_or-set_same base u z (pos 0) (omega (arith, g.heighted)))
        (ap some value
        ∙ sym (held_here (spots root over) (gives flags own) (suc u) (suc v) (b - (v + 1)) (get_or own v (pos 0)) gives_own s)
        ∙ sym (ap (root_height (spots root over) (gives flags own) (suc u) (suc v)) left))
    at_root_lem u h false t =
        let low = root_low in
        let n : u ≡ get_or root v 0 - 1 → ⊥ = λ q. eqb-false (get_or root v 0) (suc u) t (omega arith) in
        let s : eqb (spots root over (suc v)).root (suc u) ≡ false = ap (λ (x : Rooted). eqb x.root (suc u)) spot_here ∙ t in
        rw (get_or-set_other has (get_or root v 0 - 1) u true false n, get_or-set_other base (get_or root v 0 - 1) u z (pos 0) n)
        (g.is u h ∙ sym (rest (suc u))
        ∙ sym (held_elsewhere (spots root over) (gives flags own) (suc u) (suc v) (b - (v + 1)) (get_or own v (pos 0)) gives_own s)
        ∙ sym (ap (root_height (spots root over) (gives flags own) (suc u) (suc v)) left))

    z_size : nat_abs z ≤ most_root
    z_size =
        rw ez (omega (
          arith,
          size_sub (get_or own v (pos 0)) (get_or over v (pos 0)),
          known.held.small v,
          known.spotted.size v,
          known.held.few,
        ))

    pub lift_held : Given (roots_from (spots root over) (gives flags own) b v) (set has (get_or root v 0 - 1) true)
        (set base (get_or root v 0 - 1) z) b most_root
    lift_held = record {
      flagged = simp length-set g.flagged;
      heighted = simp length-set g.heighted;
      is = λ u h. at_root_lem u h (eqb (get_or root v 0) (suc u)) refl;
      size = set_all (λ (x : ℤ). nat_abs x ≤ most_root) base (get_or root v 0 - 1) z (pos 0) z_size g.size;
    }

-- before the first
pub lift_none : (flags : List Bool) (own : List ℤ) (root : List ℕ) (over : List ℤ) (has : List Bool) (base : List ℤ) (b : ℕ)
    → Blank has base b
    → Given (roots_from (spots root over) (gives flags own) b b) has base b most_root
unfolding root_height
lift_none flags own root over has base b k = record {
  flagged = k.flagged;
  heighted = k.heighted;
  is = λ v l. let e : b - b ≡ 0 = omega arith in rw (k.none v, e);
  size = λ v. rw (k.zero v) zero-le;
}
