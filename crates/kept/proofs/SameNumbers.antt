-- The library's test that the lent report begins with the rows is the definition's.
-- Assumes nothing.
use Prim.Native.Nat.{◌≤◌}
use native.Mathlib.Omega.{arith}
use mathlib.Core.Path.{◌≡◌, refl, sym, ◌∙◌}
use mathlib.Core.Bool.{Bool, true, false, cond, ◌&&◌}
use mathlib.Core.List.{List, [], ◌∷◌}
use lib.IntN.{ℤ}
use lib.ListN.{length, take, length-take}
use lib.Pointwise.{pointwise, pointwise_long}
use borrow.Author.Tests.{not-false}
use Rattle.std.specs.Ordering.{int_eq}
use Rattle.std.specs.Cmp.{signed_Decides}
use Rattle.laws.specs.Tests.{eq_z}
use Rattle.laws.proofs.Tests.{same_test, eq_z_same}
use Rattle.laws.proofs.Inside.{eq_z_true}
use Rattle.kept.specs.Other.{same_numbers, other_report}

number_same : (x y : ℤ) → int_eq y x ≡ eq_z x y
number_same x y =
    let told = signed_Decides y x in
    same_test (int_eq y x) (eq_z x y) (λ e. rw (told.0 e) (eq_z_same x)) (λ e. told.1 (sym (eq_z_true x y e)))

both : (s t : Bool) → s && t ≡ cond s t false
both true t = refl
both false t = refl

pub numbers_same : (xs ys : List ℤ) → pointwise int_eq ys xs ≡ same_numbers xs ys
unfolding same_numbers
numbers_same [] [] = refl
numbers_same [] (y ∷ ys) = refl
numbers_same (x ∷ xs) [] = refl
numbers_same (x ∷ xs) (y ∷ ys) = both (int_eq y x) (pointwise int_eq ys xs) ∙ rw (number_same x y, numbers_same xs ys)

-- a report that does not differ is long enough
pub long_enough : (report rows : List ℤ) → other_report report rows ≡ false → length rows ≤ length report
unfolding other_report
long_enough report rows e =
    let part = take (length rows) report in
    let same = pointwise_long int_eq rows part (numbers_same part rows ∙ not-false (same_numbers part rows) e) in
    omega (arith, same, length-take (length rows) report)
