-- How many sights the standing lines of a tested book make.
-- Assumes nothing.
use Prim.Native.Nat.{ℕ, zero, suc, ◌+◌, ◌*◌, ◌≤◌, ◌<◌, zero-le}
use native.Mathlib.Omega.{arith}
use mathlib.Core.Path.{◌≡◌, refl, sym, ◌∙◌}
use mathlib.Core.List.{List, [], ◌∷◌}
use mathlib.Core.Bool.{Bool, true, false}
use lib.Dec.{eqb}
use lib.ListN.{length}
use borrow.Author.Tests.{eqb-true, ne_eqb}
use Rattle.network.specs.Standing.{Line}
use Rattle.sights.specs.Sights.{Sight, sight_if, sights_of}
use Rattle.sights.specs.Table.{taken}
use Rattle.fields.proofs.Fair.{Fairs, no_line, and_line}

-- a line is seen at most once from a mark
seen_once : (t f : Bool) (s r : Sight) (ss : List Sight) → (t ≡ true → f ≡ true → ⊥)
    → length (sight_if t s (sight_if f r ss)) ≤ suc (length ss)
seen_once true true s r ss h = absurd (h refl refl)
seen_once true false s r ss h = omega arith
seen_once false true s r ss h = omega arith
seen_once false false s r ss h = omega arith

pub few_sights : {b k : ℕ} {ls : List Line} → Fairs b k ls → (m : ℕ) → length (sights_of ls m) ≤ k
unfolding sights_of
few_sights no_line m = zero-le
few_sights {ls = l ∷ ls} (and_line f fs) m =
    let h : length (sights_of (l ∷ ls) m) ≤ suc (length (sights_of ls m)) =
    seen_once (eqb l.to m) (eqb l.from m) _ _ (sights_of ls m)
    (λ t g. f.apart (eqb-true l.from m g ∙ sym (eqb-true l.to m t))) in
    omega (arith, few_sights fs m)

bit : Bool → ℕ
bit true = 1
bit false = 0

-- how often the mark x is among 1 to v
once : ℕ → ℕ → ℕ
unfolding bit
once x zero = 0
once x (suc v) = once x v + bit (eqb x (suc v))

never : (x v : ℕ) → v < x → once x v ≡ 0
unfolding once bit
never x zero l = refl
never x (suc v) l = rw (ne_eqb x (suc v) (λ e. omega arith), never x v (omega arith))

at_most_once : (x v : ℕ) → once x v ≤ 1
unfolding once bit
at_most_once x zero = zero-le
at_most_once x (suc v) = by (at_most_once x v) (eqb x (suc v)) refl
  where
    by : once x v ≤ 1 → (t : Bool) → eqb x (suc v) ≡ t → once x v + bit t ≤ 1
    by h true e = let z = never x v (omega (arith, eqb-true x (suc v) e)) in omega arith
    by h false e = omega arith

length_if : (t : Bool) (s : Sight) (ss : List Sight) → length (sight_if t s ss) ≡ bit t + length ss
unfolding bit
length_if true s ss = omega arith
length_if false s ss = omega arith

one_line : (l : Line) (ls : List Line) (v : ℕ) → taken (sights_of (l ∷ ls)) v ≡ taken (sights_of ls) v + (once l.to v + once l.from v)
unfolding taken sights_of once
one_line l ls zero = refl
one_line l ls (suc v) =
    let h = one_line l ls v in
    rw (length_if, length_if) (omega arith)

no_sight : (v : ℕ) → taken (sights_of []) v ≡ 0
unfolding taken sights_of
no_sight zero = refl
no_sight (suc v) = rw (no_sight v)

-- each line is seen from two marks
pub taken_most : {b k : ℕ} {ls : List Line} → Fairs b k ls → (v : ℕ) → taken (sights_of ls) v ≤ 2 * k
taken_most no_line v = omega (arith, no_sight v)
taken_most {ls = l ∷ ls} (and_line f fs) v =
    omega (arith, one_line l ls v, taken_most fs v, at_most_once l.to v, at_most_once l.from v)
