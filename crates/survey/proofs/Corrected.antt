-- A tested book with one number of a standing line set: it stays good, and has no more rows.
-- Assumes nothing.
use mathlib.Core.Path.{◌≡◌, refl, sym, ◌∙◌, ap}
use mathlib.Core.Bool.{false}
use mathlib.Core.List.{List, Memᴰ}
use Prim.Native.Nat.{ℕ, suc, ◌-◌, ◌≤◌, ◌<◌}
use native.Mathlib.Decide.{ℕ_discrete}
use native.Mathlib.Omega.{arith}
use lib.Dec.{lit<}
use lib.ListN.{length, set, length-set}
use lib.Seq.{get_or-set_same, get_or-set_other}
use lib.IntN.{ℤ, pos, nat_abs}
use Rattle.laws.specs.Tests.{out_z, eq_z}
use Rattle.laws.proofs.Tests.{or_left, or_right, eq_z_apart}
use Rattle.laws.specs.Range.{Between}
use Rattle.laws.proofs.Size.{between}
use Rattle.book.specs.Limits.{most_difference, most_lines}
use Rattle.book.specs.Line.{from_field, to_field, difference_field, length_field, standing_field, class_field, place, field, difference_at}
use Rattle.book.specs.Line.{standing_at, line_words, line_count}
use Rattle.book.proofs.Places.{field_kept}
use Rattle.book.specs.Good.{GoodLine, GoodLines}
use Rattle.book.specs.declared.Book.{Book}
use Rattle.network.specs.Standing.{standing}
use Rattle.network.specs.Field.{HasLine, line_at}
use Rattle.network.proofs.Standing.{in_standing}
use Rattle.network.proofs.Corrected.{withdrawal_sets_standing}
use Rattle.loops.proofs.Withdrawal.{loops_never_grow}
use Rattle.survey.specs.Stands.{Stands}
use Rattle.loops.specs.Report.{loops_of}
use Rattle.survey.specs.Correction.{no_line, place_of, rerun_lines, withdraw_lines}
use Rattle.loops.proofs.Sounding.{lines_sound}

-- a line that is not refused stands
pub stands_of : (lines : List ℤ) (number : ℤ) → no_line lines number ≡ false → Stands lines number (nat_abs number - 1)
unfolding no_line
stands_of lines number e =
    let out = out_z (pos 1) (pos (line_count lines)) number in
    let gone = eq_z (standing_at lines (nat_abs number - 1)) (pos 0) in
    let b = between 1 (line_count lines) number (or_left out gone e) in
    record {
      its_number = b.is ∙ ap pos (omega (arith, b.low));
      there = omega (arith, b.low, b.high);
      not_withdrawn = eq_z_apart (standing_at lines (nat_abs number - 1)) (pos 0) (or_right out gone e);
    }

-- its number is one of a book's
pub number_is : {k : Book} {lines : List ℤ} {number : ℤ} {i : ℕ} → GoodLines k lines → Stands lines number i → Between 1 most_lines number
number_is g w =
    let n = ap nat_abs w.its_number in
    record { is = w.its_number ∙ ap pos (sym n); low = omega (arith, n); high = omega (arith, n, w.there, g.good.few, g.good.whole) }

-- and its numbers are in the slice
pub place_inside : {lines : List ℤ} {number : ℤ} {i : ℕ} → Stands lines number i → {j : ℕ} → j < line_words
    → place_of number j < length lines
place_inside w l = let n = ap nat_abs w.its_number in omega (arith, n, w.there)

-- where the number of a standing line's field is
pub place_is : {lines : List ℤ} {number : ℤ} {i : ℕ} → Stands lines number i → (j : ℕ) → place_of number j ≡ place i j
place_is {number = number} {i = i} w j =
    let z : nat_abs number ≡ suc i = ap nat_abs w.its_number in
    omega arith

-- and that the slice has it
pub has_line : {lines : List ℤ} {number : ℤ} {i : ℕ} → Stands lines number i → HasLine lines i
has_line w = omega (arith, w.there)

-- one number set leaves the other fields as they were
module _ (b : ℕ) (lines : List ℤ) (i p : ℕ) (v : ℤ) (inside : place i p < length lines) (j : ℕ) (g : GoodLine b lines j) where
  same : (n : ℕ) → (place j n ≡ place i p → ⊥) → field n (set lines (place i p) v) j ≡ field n lines j
  same n h = get_or-set_other lines (place i p) (place j n) v (pos 0) h

  -- a difference inside its limit
  pub rerun_good : p ≡ difference_field → nat_abs v ≤ most_difference → GoodLine b (set lines (place i p) v) j
  rerun_good e small = record {
    from = rw (same from_field (λ z. omega arith)) g.from;
    to = rw (same to_field (λ z. omega arith)) g.to;
    apart = rw (same from_field (λ z. omega arith), same to_field (λ z. omega arith)) g.apart;
    difference = new (ℕ_discrete j i);
    long = rw (same length_field (λ z. omega arith)) g.long;
    standing = rw (same standing_field (λ z. omega arith)) g.standing;
  }
    where
      new : Dec (j ≡ i) → nat_abs (difference_at (set lines (place i p) v) j) ≤ most_difference
      new (yes q) = rw (q, ← e, get_or-set_same lines (place i p) v (pos 0) inside) small
      new (no h) = rw (same difference_field (λ z. h (omega arith))) g.difference

  -- a standing of 0
  pub withdrawal_good : p ≡ standing_field → v ≡ pos 0 → GoodLine b (set lines (place i p) v) j
  withdrawal_good e zero_v = record {
    from = rw (same from_field (λ z. omega arith)) g.from;
    to = rw (same to_field (λ z. omega arith)) g.to;
    apart = rw (same from_field (λ z. omega arith), same to_field (λ z. omega arith)) g.apart;
    difference = rw (same difference_field (λ z. omega arith)) g.difference;
    long = rw (same length_field (λ z. omega arith)) g.long;
    standing = new (ℕ_discrete j i);
  }
    where
      new : Dec (j ≡ i) → Between 0 1 (standing_at (set lines (place i p) v) j)
      new (yes q) =
          rw (q, ← e, get_or-set_same lines (place i p) v (pos 0) inside, zero_v)
          (record { is = refl; low = omega arith; high = omega arith })
      new (no h) = rw (same standing_field (λ z. h (omega arith))) g.standing

module _ (k : Book) (lines : List ℤ) (good : GoodLines k lines) (number : ℤ) (i : ℕ) (stands : Stands lines number i) where
  -- a number before the class set leaves the classes as they were
  with_lines_lem : (f : ℕ) (v : ℤ) → f < class_field
      → ((j : ℕ) → GoodLine k.marks lines j → GoodLine k.marks (set lines (place i f) v) j)
      → GoodLines k (set lines (place i f) v)
  with_lines_lem f v before h = record {
    known_version = good.known_version;
    a_mark = good.a_mark;
    few_marks = good.few_marks;
    small_tolerance = good.small_tolerance;
    classes = λ j l. rw (field_kept lines i f v class_field (omega arith) (lit< tt) (λ e. omega arith) j) (good.classes j l);
    good = record {
      few = good.good.few;
      whole = length-set lines (place i f) v ∙ good.good.whole;
      each = λ j l. h j (good.good.each j l);
    };
  }

  -- with a difference inside its limit, or withdrawn, the line leaves the book good
  pub rerun_lines_good : (difference : ℤ) → nat_abs difference ≤ most_difference → GoodLines k (rerun_lines lines number difference)
  unfolding rerun_lines
  rerun_lines_good d small =
      rw (place_is stands difference_field) (with_lines_lem difference_field d (lit< tt)
      (λ j g. rerun_good k.marks lines i difference_field d (omega (arith, has_line stands)) j g refl small))

  pub withdrawn_lines_good : GoodLines k (withdraw_lines lines number)
  unfolding withdraw_lines
  withdrawn_lines_good =
      rw (place_is stands standing_field) (with_lines_lem standing_field (pos 0) (lit< tt)
      (λ j g. withdrawal_good k.marks lines i standing_field (pos 0) (omega (arith, has_line stands)) j g refl refl))

  -- the line itself, as a standing line
  pub its_line : Memᴰ (line_at (suc i) lines i) (standing lines)
  its_line =
      let g = good.good.each i (omega (arith, good.good.whole, stands.there)) in
      in_standing lines i (line_at (suc i) lines i) (record {
        is_there = has_line stands;
        beyond = 0;
        stands = g.standing.is ∙ ap pos (one (nat_abs (standing_at lines i)) g.standing.high
            (λ z. stands.not_withdrawn (g.standing.is ∙ ap pos z)));
        its = refl;
      })
    where
      one : (n : ℕ) → n ≤ 1 → (n ≡ 0 → ⊥) → n ≡ 1
      one n h d = omega arith

  -- withdrawn, it leaves no more loops than there were
  pub withdrawal_fewer : length (loops_of k.marks (withdraw_lines lines number)) ≤ length (loops_of k.marks lines)
  unfolding loops_of withdraw_lines
  withdrawal_fewer =
      rw (place_is stands standing_field, withdrawal_sets_standing lines i (has_line stands))
      (loops_never_grow k.marks (standing lines) (lines_sound k lines good) (line_at (suc i) lines i) its_line)
