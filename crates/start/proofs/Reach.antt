-- How far the tree's lines put a mark over its root, and two marks apart: by at most one line for each mark that has entered.
-- Assumes nothing.
use Prim.Native.Nat.{ℕ, suc, ◌+◌, ◌*◌, ◌≤◌, zero-le}
use native.Mathlib.Omega.{arith}
use mathlib.Core.Path.{◌≡◌, refl, sym, ◌∙◌, ap}
use mathlib.Core.Bool.{Bool, true, false}
use mathlib.Core.List.{[], ◌∷◌, Memᴰ}
use mathlib.Core.Option.{Option, none, some}
use lib.Dec.{eqb}
use lib.ListN.{length}
use lib.IntN.{ℤ, pos, nat_abs, neg_ℤ, ◌+ℤ◌, ◌-ℤ◌, +ℤ_invr}
use borrow.Author.Tests.{eqb-true}
use Rattle.laws.proofs.Ring.{ring}
use Rattle.laws.proofs.Size.{size_add, size_sub, size_neg}
use Rattle.book.specs.Limits.{most_difference}
use Rattle.network.specs.Standing.{Line}
use Rattle.network.specs.Tree.{Entry, Tree}
use Rattle.start.specs.Start.{Rooted, enters, rooted_by}
use Rattle.start.proofs.Pieces.{by_side}

-- the newest mark, or another
abbrev side_of : Bool → Rooted → Rooted → Rooted
side_of t x y = elim t [ true ↦ x | false ↦ y ]

-- sizes of differences
plus_size : (a d c : ℤ) → nat_abs ((a +ℤ d) -ℤ c) ≤ nat_abs (a -ℤ c) + nat_abs d
plus_size a d c = let e : (a +ℤ d) -ℤ c ≡ (a -ℤ c) +ℤ d = simp ring in rw e (size_add (a -ℤ c) d)

minus_size : (a d c : ℤ) → nat_abs ((a -ℤ d) -ℤ c) ≤ nat_abs (a -ℤ c) + nat_abs d
minus_size a d c = let e : (a -ℤ d) -ℤ c ≡ (a -ℤ c) -ℤ d = simp ring in rw e (size_sub (a -ℤ c) d)

flip_size : (a c : ℤ) → nat_abs (a -ℤ c) ≡ nat_abs (c -ℤ a)
flip_size a c = let e : a -ℤ c ≡ neg_ℤ (c -ℤ a) = simp ring in ap nat_abs e ∙ size_neg (c -ℤ a)

-- the line by which a mark comes in has a difference inside its limit
abbrev Small : Option Line → Type 0
Small o = (l : Line) → o ≡ some l → nat_abs l.difference ≤ most_difference

-- a mark comes in, where every mark before it stands at most k lines over its root
module _ (before : ℕ → Rooted) (k : ℕ) (reach : (p : ℕ) → nat_abs (before p).over ≤ k * most_difference) where
  new_size : (m : ℕ) (o : Option Line) → Small o → nat_abs (enters before m o).over ≤ suc k * most_difference
  new_size m none d = zero-le
  new_size m (some l) d = by (d l refl) (eqb l.to m)
    where
      by : nat_abs l.difference ≤ most_difference → (t : Bool) → nat_abs (by_side before l t).over ≤ suc k * most_difference
      by s true = omega (arith, size_add (before l.from).over l.difference, reach l.from)
      by s false = omega (arith, size_sub (before l.to).over l.difference, reach l.to)

  -- .. and no two of them more than k lines apart
  new_apart : ((p q : ℕ) → nat_abs ((before p).over -ℤ (before q).over) ≤ k * most_difference) → (m : ℕ) (o : Option Line) (q : ℕ) → Small o
      → nat_abs ((enters before m o).over -ℤ (before q).over) ≤ suc k * most_difference
  new_apart g m none q d = omega (arith, size_sub (pos 0) (before q).over, reach q)
  new_apart g m (some l) q d = by (d l refl) (eqb l.to m)
    where
      by : nat_abs l.difference ≤ most_difference → (t : Bool)
          → nat_abs ((by_side before l t).over -ℤ (before q).over) ≤ suc k * most_difference
      by s true = omega (arith, plus_size (before l.from).over l.difference (before q).over, g l.from q)
      by s false = omega (arith, minus_size (before l.to).over l.difference (before q).over, g l.to q)

abbrev pub SmallTree : Tree → Type 0
SmallTree es = (e : Entry) → Memᴰ e es → Small e.by

tree_reach : (es : Tree) → SmallTree es → (m : ℕ) → nat_abs (rooted_by es m).over ≤ length es * most_difference
unfolding rooted_by
tree_reach [] d m = zero-le
tree_reach (e ∷ es) d m = by (tree_reach es (λ x i. d x (Memᴰ.tail i))) (eqb e.mark m)
  where
    by : ((p : ℕ) → nat_abs (rooted_by es p).over ≤ length es * most_difference) → (t : Bool)
        → nat_abs (side_of t (enters (λ k. rooted_by es k) m e.by) (rooted_by es m)).over ≤ suc (length es) * most_difference
    by h true = new_size (λ k. rooted_by es k) (length es) h m e.by (d e (Memᴰ.head refl))
    by h false = omega (arith, h m)

pub tree_apart : (es : Tree) → SmallTree es → (m p : ℕ)
    → nat_abs ((rooted_by es m).over -ℤ (rooted_by es p).over) ≤ length es * most_difference
unfolding rooted_by
tree_apart [] d m p = zero-le
tree_apart (e ∷ es) d m p =
    by (tree_reach es rest) (tree_apart es rest) (eqb e.mark m) (eqb e.mark p) refl refl
  where
    rest : SmallTree es
    rest x i = d x (Memᴰ.tail i)

    F : ℕ → Rooted
    F k = rooted_by es k

    N : ℕ → Rooted
    N x = enters F x e.by

    by : ((q : ℕ) → nat_abs (F q).over ≤ length es * most_difference)
        → ((q r : ℕ) → nat_abs ((F q).over -ℤ (F r).over) ≤ length es * most_difference)
        → (t u : Bool) → eqb e.mark m ≡ t → eqb e.mark p ≡ u
        → nat_abs ((side_of t (N m) (F m)).over -ℤ (side_of u (N p) (F p)).over) ≤ suc (length es) * most_difference
    by h g true true et eu =
        let same : m ≡ p = sym (eqb-true e.mark m et) ∙ eqb-true e.mark p eu in
        let none_apart : (N m).over -ℤ (N p).over ≡ pos 0 = ap (λ (x : ℕ). (N x).over -ℤ (N p).over) same ∙ +ℤ_invr (N p).over in
        rw none_apart zero-le
    by h g true false et eu = new_apart F (length es) h g m e.by p (d e (Memᴰ.head refl))
    by h g false true et eu = rw (flip_size (F m).over (N p).over) (new_apart F (length es) h g p e.by m (d e (Memᴰ.head refl)))
    by h g false false et eu = omega (arith, g m p)
