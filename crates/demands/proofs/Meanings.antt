-- What the tests of the table mean. Assumes nothing.
use mathlib.Core.Path.{◌≡◌, refl, sym, ◌∙◌, ap, ap₂}
use mathlib.Core.Logic.{◌↔◌}
use mathlib.Core.Bool.{Bool, true, false, not, cond, true≢false}
use mathlib.Core.List.{List, [], ◌∷◌, ◌++◌}
use Prim.Native.Nat.{ℕ, suc, ◌-◌, ◌<◌}
use native.Mathlib.Omega.{arith}
use lib.ListN.{length, take, drop, take-append-drop}
use lib.Seq.{take-append_seam}
use lib.IntN.{ℤ, pos, nat_abs}
use borrow.Author.Tests.{not-false}
use Rattle.laws.specs.Tests.{eq_z}
use Rattle.laws.proofs.Tests.{eq_z_same}
use Rattle.laws.proofs.FirstBad.{first_is_first}
use Rattle.laws.proofs.Inside.{eq_z_true, apart_eq_z, inside}
use Rattle.book.specs.Lent.{Lent}
use Rattle.book.specs.Held.{held_count, held_bad, first_bad_held}
use Rattle.book.specs.Line.{line_count, standing_at, class_at, line_bad, first_bad_line}
use Rattle.book.specs.Version.{class_out}
use Rattle.book.specs.Test.{test_of}
use Rattle.book.specs.Good.{GoodLine, GoodHeld, GoodBook}
use Rattle.book.specs.declared.Book.{Book}
use Rattle.book.specs.Test.{Good}
use Rattle.book.proofs.Goods.{good_line, good_class, good_held, tested_good}
use Rattle.book.proofs.Passing.{line_passes, held_passes, good_passes}
use Rattle.survey.proofs.Corrected.{stands_of}
use Rattle.survey.specs.Correction.{no_line, same_numbers, other_report}
use Rattle.demands.specs.Corrections.{Stands}

-- 3, 4, 6 and 7 do not apply exactly if the book is of version 1 or 2 and inside every limit
pub passes_exactly_if_good : (k : Book) (book : Lent) → (test_of book ≡ Good k) ↔ GoodBook k book
passes_exactly_if_good k book = (tested_good book k, good_passes k book)

-- 6: a held entry is not bad exactly if it is inside its limits and its mark is not held before
pub held_exactly_if_good : (b : ℕ) (held : List ℤ) (i : ℕ) → (held_bad (pos b) held i ≡ false) ↔ GoodHeld b held i
held_exactly_if_good b held i = (good_held b held i, held_passes b held i)

-- 7: a line has no fault exactly if its ends are two marks of the book, its difference and length are inside their limits, its standing is
-- 0 or 1, and its class is one of the book's version
pub line_exactly_if_good : (version : ℤ) (b : ℕ) (lines : List ℤ) (i : ℕ)
    → (line_bad version (pos b) lines i ≡ false) ↔ (GoodLine b lines i × (class_out version (class_at lines i) ≡ false))
line_exactly_if_good version b lines i =
    (λ e. (good_line version b lines i e, good_class version (pos b) lines i e), λ g. line_passes version b lines i g.0 g.1)

-- the place of 6 is the "first such entry"
pub held_place_is_first : (b : ℤ) (held : List ℤ) (i : ℕ) → first_bad_held b held ≡ suc i
    → (i < held_count held) × (held_bad b held i ≡ true) × ((j : ℕ) → j < i → held_bad b held j ≡ false)
unfolding first_bad_held
held_place_is_first b held i e = first_is_first (held_bad b held) (held_count held) i e

-- the place of 7 is the "first such line"
pub line_place_is_first : (version b : ℤ) (lines : List ℤ) (i : ℕ) → first_bad_line version b lines ≡ suc i
    → (i < line_count lines) × (line_bad version b lines i ≡ true) × ((j : ℕ) → j < i → line_bad version b lines j ≡ false)
unfolding first_bad_line
line_place_is_first version b lines i e = first_is_first (line_bad version b lines) (line_count lines) i e

-- 8: there is such a line exactly if its number is one of the book's and it stands
pub line_exactly_if_stands : (lines : List ℤ) (number : ℤ) → (no_line lines number ≡ false) ↔ ((i : ℕ) × Stands lines number i)
unfolding no_line
line_exactly_if_stands lines number = (λ e. (nat_abs number - 1, stands_of lines number e), λ w. back w.0 w.1)
  where
    back : (i : ℕ) → Stands lines number i → no_line lines number ≡ false
    back i w =
        rw (w.its_number, inside 1 (line_count lines) (suc i) (omega arith) (omega (arith, w.there)))
        (apart_eq_z (standing_at lines (suc i - 1)) (pos 0) (λ z. w.not_withdrawn (ap (standing_at lines) (omega arith) ∙ z)))

same_if : (xs ys : List ℤ) → same_numbers xs ys ≡ true → xs ≡ ys
unfolding same_numbers
same_if [] [] e = refl
same_if [] (y ∷ ys) e = absurd (true≢false (sym e))
same_if (x ∷ xs) [] e = absurd (true≢false (sym e))
same_if (x ∷ xs) (y ∷ ys) e = go (eq_z x y) refl e (same_if xs ys)
  where
    go : (t : Bool) → eq_z x y ≡ t → cond t (same_numbers xs ys) false ≡ true → (same_numbers xs ys ≡ true → xs ≡ ys) → x ∷ xs ≡ y ∷ ys
    go true p e ih = ap₂ ◌∷◌ (eq_z_true x y p) (ih e)
    go false p e ih = absurd (true≢false (sym e))

same_self : (xs : List ℤ) → same_numbers xs xs ≡ true
unfolding same_numbers
same_self [] = refl
same_self (x ∷ xs) = rw (eq_z_same x) (same_self xs)

-- 9: the lent report is this book's exactly if it begins with the book's rows
pub report_exactly_if_rows : (report rows : List ℤ) → (other_report report rows ≡ false) ↔ (report ≡ rows ++ drop (length rows) report)
unfolding other_report
report_exactly_if_rows report rows = (to, back)
  where
    to : other_report report rows ≡ false → report ≡ rows ++ drop (length rows) report
    to e =
        sym (take-append-drop (length rows) report)
        ∙ ap (λ (xs : List ℤ). xs ++ drop (length rows) report)
        (same_if (take (length rows) report) rows (not-false (same_numbers (take (length rows) report) rows) e))

    back : report ≡ rows ++ drop (length rows) report → other_report report rows ≡ false
    back e =
        let z : take (length rows) report ≡ rows = ap (take (length rows)) e ∙ take-append_seam rows (drop (length rows) report) in
        ap (λ (xs : List ℤ). not (same_numbers xs rows)) z ∙ rw (same_self rows)
