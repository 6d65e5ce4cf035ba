-- What a version asks of t and of the classes, from the tests and back; and the tolerances of lines. Assumes nothing.
use mathlib.Core.Path.{◌≡◌, refl, sym, ◌∙◌, ap, subst}
use mathlib.Core.Logic.{◌⊎◌, inl, inr}
use mathlib.Core.Bool.{Bool, true, false, not, cond}
use mathlib.Core.List.{List}
use Prim.Native.Nat.{ℕ, zero, suc, ◌≤◌, ◌<◌}
use native.Mathlib.Omega.{arith}
use lib.ListN.{length, get_or}
use lib.IntN.{ℤ, pos, negsuc, nat_abs, pos-ne-negsuc}
use borrow.Author.Tests.{not-false}
use Rattle.laws.specs.Tests.{out_z, out_n, eq_z}
use Rattle.laws.specs.Scan.{first_from, first_bad}
use Rattle.laws.specs.Range.{Between}
use Rattle.laws.proofs.Tests.{in_n_low, in_n_high, eq_z_apart}
use Rattle.laws.proofs.Scans.{none_bad}
use Rattle.laws.proofs.Size.{between}
use Rattle.laws.proofs.Inside.{inside, between_inside, eq_z_true}
use Rattle.book.specs.Limits.{least_version, most_version, least_tolerance, most_tolerance, least_class, most_class}
use Rattle.book.specs.Version.{version_out, tolerance_out, no_class, class_out, tolerances, tolerance_of, Classed}
use Rattle.book.specs.Line.{class_at}
use Rattle.book.specs.Good.{Versioned, single, classed}

-- ---- from the tests

-- two numbers that are not told apart
same : (x y : ℤ) → not (eq_z x y) ≡ false → x ≡ y
same x y e = eq_z_true x y (not-false (eq_z x y) e)

-- t is a natural number, within the limit that it has in version 1
pub tolerance_inside : (version t : ℤ) → tolerance_out version t ≡ false → (t ≡ pos (nat_abs t)) × (nat_abs t ≤ most_tolerance)
unfolding tolerance_out
tolerance_inside version t e = go (eq_z version (pos 2)) e
  where
    go : (x : Bool) → cond x (not (eq_z t (pos 0))) (out_z (pos least_tolerance) (pos most_tolerance) t) ≡ false
        → (t ≡ pos (nat_abs t)) × (nat_abs t ≤ most_tolerance)
    go true e = let z = same t (pos 0) e in (z ∙ sym (ap (λ (x : ℤ). pos (nat_abs x)) z), omega (arith, ap nat_abs z))
    go false e = let w = between least_tolerance most_tolerance t e in (w.is, w.high)

module _ (lines : List ℤ) (n : ℕ) where
  pub versioned : (version t : ℤ) → version_out version ≡ false → tolerance_out version t ≡ false
      → ((i : ℕ) → i < n → class_out version (class_at lines i) ≡ false) → Versioned lines n (nat_abs version) (nat_abs t)
  unfolding version_out tolerance_out class_out eq_z
  versioned (pos zero) t v o c = absurd (omega (arith, (between least_version most_version (pos 0) v).low))
  versioned (pos (suc zero)) t v o c =
      let w = between least_tolerance most_tolerance t o in
      single w.low w.high (λ i l. same (class_at lines i) no_class (c i l))
  versioned (pos (suc (suc zero))) t v o c =
      subst (λ (x : ℕ). Versioned lines n 2 x) (sym (ap nat_abs (same t (pos 0) o)))
      (classed (λ i l. between least_class most_class (class_at lines i) (c i l)))
  versioned (pos (suc (suc (suc k)))) t v o c =
      absurd (omega (arith, (between least_version most_version (pos (suc (suc (suc k)))) v).high))
  versioned (negsuc k) t v o c = absurd (pos-ne-negsuc (suc k) k (sym (between least_version most_version (negsuc k) v).is))

-- ---- and back

module _ {lines : List ℤ} {n : ℕ} where
  pub version_passes : {version t : ℕ} → Versioned lines n version t → version_out (pos version) ≡ false
  unfolding version_out out_z
  version_passes (single l h c) = refl
  version_passes (classed c) = refl

  pub tolerance_passes : {version t : ℕ} → Versioned lines n version t → tolerance_out (pos version) (pos t) ≡ false
  unfolding tolerance_out eq_z
  tolerance_passes (single {t} l h c) = inside least_tolerance most_tolerance t l h
  tolerance_passes (classed c) = refl

  pub class_passes : {version t : ℕ} → Versioned lines n version t → (i : ℕ) → i < n → class_out (pos version) (class_at lines i) ≡ false
  unfolding class_out eq_z
  class_passes (single l h c) i k = ap (λ (z : ℤ). not (eq_z z no_class)) (c i k)
  class_passes (classed c) i k = between_inside (c i k)

  -- ---- what the work on the lines uses

  pub known_version : {version t : ℕ} → Versioned lines n version t → version ≤ most_version
  known_version (single l h c) = omega arith
  known_version (classed c) = omega arith

  pub small_tolerance : {version t : ℕ} → Versioned lines n version t → t ≤ most_tolerance
  small_tolerance (single l h c) = h
  small_tolerance (classed c) = omega arith

  pub classes : {version t : ℕ} → Versioned lines n version t → (i : ℕ) → i < n → Classed (class_at lines i)
  classes (single l h c) i k = inl (c i k)
  classes (classed c) i k = inr (c i k)

  -- what each version asks of the classes
  pub one_has_none : {version t : ℕ} → Versioned lines n version t → version ≡ 1 → (i : ℕ) → i < n → class_at lines i ≡ no_class
  one_has_none (single l h c) e i k = c i k
  one_has_none (classed c) e i k = absurd (omega arith)

  pub two_has_one : {version t : ℕ} → Versioned lines n version t → version ≡ 2
      → (t ≡ 0) × ((i : ℕ) → i < n → Between least_class most_class (class_at lines i))
  two_has_one (single l h c) e = absurd (omega arith)
  two_has_one (classed c) e = (refl, c)

-- other lines with the same classes
pub versioned_still : {lines new : List ℤ} {n version t : ℕ} → ((i : ℕ) → class_at lines i ≡ class_at new i)
    → Versioned lines n version t → Versioned new n version t
versioned_still same (single l h c) = single l h (λ i k. sym (same i) ∙ c i k)
versioned_still same (classed c) = classed (λ i k. rw (← (same i)) (c i k))

-- ---- the tolerance of a line

-- "its entries proved once as positive and within t's limit": no entry of the table is outside, which is computed over the whole table
pub table_inside : (class : ℕ) → class < length tolerances → out_n least_tolerance most_tolerance (get_or tolerances class 0) ≡ false
unfolding out_n first_bad first_from
table_inside = none_bad (λ class. out_n least_tolerance most_tolerance (get_or tolerances class 0)) (length tolerances) refl

abbrev pub InsideLimits : ℕ → Type 0
InsideLimits tolerance = (least_tolerance ≤ tolerance) × (tolerance ≤ most_tolerance)

-- of a line with a class: the table's entry
pub class_tolerance : (t : ℕ) (class : ℤ) → Between least_class most_class class
    → tolerance_of t class ≡ get_or tolerances (nat_abs class) 0
unfolding tolerance_of
class_tolerance t class w = ap (tolerance_of t) w.is

class_inside : (t : ℕ) (class : ℤ) → Between least_class most_class class → InsideLimits (tolerance_of t class)
class_inside t class w =
    let e = table_inside (nat_abs class) (omega (arith, w.high)) in
    subst InsideLimits (sym (class_tolerance t class w))
    (in_n_low least_tolerance most_tolerance _ e, in_n_high least_tolerance most_tolerance _ e)

-- of a line without one: t
pub no_class_tolerance : (t : ℕ) (class : ℤ) → class ≡ no_class → tolerance_of t class ≡ t
unfolding tolerance_of
no_class_tolerance t class e = ap (tolerance_of t) e

-- a line that has one has one of the table's
pub in_table : (class : ℤ) → Classed class → eq_z class no_class ≡ false → Between least_class most_class class
in_table class (inl e) h = absurd (eq_z_apart class no_class h e)
in_table class (inr w) h = w

pub tolerance_at_most : (t : ℕ) (class : ℤ) → t ≤ most_tolerance → Classed class → tolerance_of t class ≤ most_tolerance
tolerance_at_most t class h (inl e) = rw (no_class_tolerance t class e) h
tolerance_at_most t class h (inr w) = (class_inside t class w).1

-- in a good book every line has a tolerance within t's limits, whatever its version
pub tolerances_inside : {lines : List ℤ} {n version t : ℕ} → Versioned lines n version t → (i : ℕ) → i < n
    → InsideLimits (tolerance_of t (class_at lines i))
tolerances_inside {lines} (single {t} l h c) i k = rw (no_class_tolerance t (class_at lines i) (c i k)) (l, h)
tolerances_inside {lines} (classed c) i k = class_inside 0 (class_at lines i) (c i k)
