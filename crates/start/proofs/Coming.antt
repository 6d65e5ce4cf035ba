-- A mark that comes into the tree: its root, and how high it stands over it.
-- Assumes nothing.
use Prim.Native.Nat.{ℕ, zero, suc, ◌+◌, ◌*◌, ◌-◌, ◌≤◌, ◌<◌, zero-le}
use native.Mathlib.Numerals.{add-one}
use native.Mathlib.Omega.{arith}
use mathlib.Core.Path.{◌≡◌, refl, sym, ◌∙◌, ap}
use mathlib.Core.Bool.{Bool, true, false}
use mathlib.Core.List.{List}
use lib.Dec.{eqb}
use lib.ListN.{length, get_or, set, length-set}
use lib.Seq.{get_or-set_same, get_or-set_other}
use lib.IntN.{ℤ, pos, nat_abs, ◌-ℤ◌}
use borrow.Author.Tests.{eqb-true, eqb-false, ne_eqb}
use Rattle.book.specs.Good.{Lines}
use Rattle.laws.proofs.Size.{size_sub}
use Rattle.book.specs.Limits.{most_difference}
use Rattle.book.specs.Line.{from_at, to_at, difference_at}
use Rattle.chains.specs.Chains.{line_in}
use Rattle.start.specs.Start.{Rooted, rooted, up, down}
use Rattle.start.specs.Along.{Growth, side_of, came_in, rooting, spots, Spotted, Spot, Placing}
use Rattle.fields.proofs.Setting.{set_all}

module _ (lines : List ℤ) (root : List ℕ) (over : List ℤ) (b k m : ℕ) (spotted : Spotted root over b k) where
  by_side : (i : ℕ) (t : Bool) → eqb (nat_abs (to_at lines i)) m ≡ t
      → side_of t (up (spots root over (nat_abs (from_at lines i))) (difference_at lines i))
      (down (spots root over (nat_abs (to_at lines i))) (difference_at lines i))
      ≡ came_in (spots root over) lines m (suc i)
  by_side i t e =
      ap (λ (s : Bool). side_of s (up (spots root over (nat_abs (from_at lines i))) (difference_at lines i))
      (down (spots root over (nat_abs (to_at lines i))) (difference_at lines i))) (sym e)

  bigger : (x : ℕ) (z : ℤ) → nat_abs z ≤ x + most_difference → x ≤ k * most_difference → nat_abs z ≤ (k + 1) * most_difference
  bigger x z h l = omega arith

  -- over the line from its to
  pub come_down : (i to : ℕ) (d o : ℤ) → (to ≡ m → ⊥) → to ≡ nat_abs (to_at lines i) → 0 < to → to ≤ b
      → d ≡ difference_at lines i → nat_abs d ≤ most_difference → o ≡ get_or over (to - 1) (pos 0) -ℤ d
      → Spot (came_in (spots root over) lines m (suc i)) b (k + 1) (get_or root (to - 1) 0) o
  come_down i to d o nt et tl tu ed hd eo = record {
    is =
        ap (λ (x : ℤ). rooted (get_or root (to - 1) 0) x) (eo ∙ ap (λ (x : ℤ). get_or over (to - 1) (pos 0) -ℤ x) ed)
        ∙ ap (λ (x : ℕ). down (spots root over x) (difference_at lines i)) et
        ∙ by_side i false (ne_eqb (nat_abs (to_at lines i)) m (λ e. nt (et ∙ e)));
    mark = spotted.marks (to - 1) (omega arith);
    size = rw eo (bigger (nat_abs (get_or over (to - 1) (pos 0))) (get_or over (to - 1) (pos 0) -ℤ d)
        (omega (arith, size_sub (get_or over (to - 1) (pos 0)) d)) (spotted.size (to - 1)));
  }

-- the arrays after one mark more has entered
module _ (lines : List ℤ) (order best : List ℕ) (b n k : ℕ) (growth : Growth order best b n) (l : k < b) where
  agree : (root : List ℕ) (over : List ℤ) → Placing (rooting lines order best k) root over b k → (m : ℕ) → 0 < m → m ≤ b
      → spots root over m ≡ rooting lines order best k m
  agree root over p m low high =
      let e : suc (m - 1) ≡ m = omega arith in
      p.place (m - 1) (omega arith) ∙ ap (rooting lines order best k) e

  came_same : (root : List ℕ) (over : List ℤ) → Placing (rooting lines order best k) root over b k → (m j : ℕ)
      → ((i : ℕ) → j ≡ suc i → (0 < nat_abs (from_at lines i)) × (nat_abs (from_at lines i) ≤ b) × (0 < nat_abs (to_at lines i))
      × (nat_abs (to_at lines i) ≤ b))
      → came_in (spots root over) lines m j ≡ came_in (rooting lines order best k) lines m j
  came_same root over p m zero h = refl
  came_same root over p m (suc i) h =
      let g = h i refl in
      let f = nat_abs (from_at lines i) in
      let t = nat_abs (to_at lines i) in
      let d = difference_at lines i in
      ap (λ (x : Rooted). side_of (eqb t m) (up x d) (down (spots root over t) d)) (agree root over p f g.0 g.1)
      ∙ ap (λ (x : Rooted). side_of (eqb t m) (up (rooting lines order best k f) d) (down x d)) (agree root over p t g.2 g.3)

  module _ (root : List ℕ) (over : List ℤ) (r : ℕ) (o : ℤ) (p : Placing (rooting lines order best k) root over b k)
      (ends : (i : ℕ) → line_in best (get_or order k 0) ≡ suc i → (0 < nat_abs (from_at lines i)) × (nat_abs (from_at lines i) ≤ b)
      × (0 < nat_abs (to_at lines i)) × (nat_abs (to_at lines i) ≤ b))
      (s : Spot (came_in (spots root over) lines (get_or order k 0) (line_in best (get_or order k 0))) b (k + 1) r o) where
    abbrev pub m : ℕ
    m = get_or order k 0

    place_new : (v : ℕ) → v < b → (t : Bool) → eqb m (suc v) ≡ t
        → rooted (get_or (set root (m - 1) r) v 0) (get_or (set over (m - 1) o) v (pos 0))
        ≡ side_of t (came_in (rooting lines order best k) lines (suc v) (line_in best (get_or order k 0)))
        (rooting lines order best k (suc v))
    place_new v h true e =
        let em : get_or order k 0 ≡ suc v = eqb-true (get_or order k 0) (suc v) e in
        let ev : get_or order k 0 - 1 ≡ v = omega arith in
        rw (
          ev,
          get_or-set_same root v r 0 (omega (arith, p.spotted.roots)),
          get_or-set_same over v o (pos 0)
              (omega (arith, p.spotted.overs)),
        )
        (s.is ∙ came_same root over p (get_or order k 0) (line_in best (get_or order k 0)) ends
        ∙ ap (λ (x : ℕ). came_in (rooting lines order best k) lines x (line_in best (get_or order k 0))) em)
    place_new v h false e =
        let nm = eqb-false (get_or order k 0) (suc v) e in
        let low = (growth.marks k l).0 in
        let nv : v ≡ get_or order k 0 - 1 → ⊥ = λ q. nm (omega arith) in
        rw (get_or-set_other root (get_or order k 0 - 1) v r 0 nv, get_or-set_other over (get_or order k 0 - 1) v o (pos 0) nv)
        (p.place v h)

    pub entered : Placing (rooting lines order best (k + 1)) (set root (m - 1) r) (set over (m - 1) o) b (k + 1)
    unfolding rooting
    entered = record {
      spotted = record {
        roots = simp length-set p.spotted.roots;
        overs = simp length-set p.spotted.overs;
        marks = λ v h. root_mark v h (eqb v (get_or order k 0 - 1)) refl;
        size = λ v. set_all (λ (z : ℤ). nat_abs z ≤ (k + 1) * most_difference) over (get_or order k 0 - 1) o (pos 0) s.size
            (λ j. omega (arith, p.spotted.size j)) v;
      };
      place = λ v h. rw (add-one k) (place_new v h (eqb (get_or order k 0) (suc v)) refl);
    }
      where
        root_mark : (v : ℕ) → v < b → (t : Bool) → eqb v (get_or order k 0 - 1) ≡ t
            → (0 < get_or (set root (get_or order k 0 - 1) r) v 0) × (get_or (set root (get_or order k 0 - 1) r) v 0 ≤ b)
        root_mark v h true e =
            rw (
              eqb-true v (get_or order k 0 - 1) e,
              get_or-set_same root (get_or order k 0 - 1) r 0
                  (omega (arith, (growth.marks k l).0, (growth.marks k l).1, p.spotted.roots)),
            ) s.mark
        root_mark v h false e =
            rw (get_or-set_other root (get_or order k 0 - 1) v r 0 (eqb-false v (get_or order k 0 - 1) e)) (p.spotted.marks v h)

-- the marks of a line of the book
pub ends_of : (lines : List ℤ) (b n : ℕ) → Lines lines b n → (j : ℕ) → j ≤ n → (i : ℕ) → j ≡ suc i
    → (0 < nat_abs (from_at lines i)) × (nat_abs (from_at lines i) ≤ b) × (0 < nat_abs (to_at lines i)) × (nat_abs (to_at lines i) ≤ b)
ends_of lines b n good j l i e =
    let g = good.each i (omega arith) in
    (g.from.low, g.from.high, g.to.low, g.to.high)

-- before the first: every mark stands over itself
pub entered_none : (lines : List ℤ) (order best root : List ℕ) (over : List ℤ) (b : ℕ) → length root ≡ b → length over ≡ b
    → ((v : ℕ) → v < b → get_or root v 0 ≡ suc v) → ((v : ℕ) → get_or over v (pos 0) ≡ pos 0)
    → Placing (rooting lines order best 0) root over b 0
unfolding rooting
entered_none lines order best root over b er eo hr ho = record {
  spotted = record {
    roots = er;
    overs = eo;
    marks = λ v l. rw (hr v l) (omega arith, l);
    size = λ v. rw (ho v) zero-le;
  };
  place = λ v l. rw (hr v l, ho v);
}
