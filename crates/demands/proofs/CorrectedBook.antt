-- The corrected book: a good book with one number set stays good; its standing lines and its loops. Assumes nothing.
use mathlib.Core.List.{List, map}
use mathlib.Core.Path.{◌≡◌, refl, sym, ◌∙◌, ap}
use Prim.Native.Nat.{ℕ, suc, ◌*◌, ◌≤◌, ◌<◌}
use native.Mathlib.Omega.{arith}
use lib.Dec.{lit<}
use lib.IntN.{ℤ, pos, nat_abs}
use lib.ListN.{length, length-map, set, length-set}
use lib.Seq.{get_or-set_same, get_or-set_other}
use Rattle.book.specs.Lent.{Lent, with_lines}
use Rattle.book.specs.Good.{GoodBook, GoodLine}
use Rattle.book.specs.Line.{difference_field, standing_field, class_field, place}
use Rattle.book.proofs.Places.{field_kept}
use Rattle.book.proofs.Versions.{versioned_still}
use Rattle.book.specs.Limits.{most_difference}
use Rattle.book.specs.declared.Book.{Book}
use Rattle.network.proofs.Corrected.{rerun_sets_difference, withdrawal_sets_standing}
use Rattle.network.specs.Field.{line_at}
use Rattle.network.specs.Redone.{redone_pass, redone}
use Rattle.network.specs.Standing.{standing}
use Rattle.network.specs.Without.{without}
use Rattle.loops.proofs.Rerun.{rerun_keeps_loops}
use Rattle.loops.specs.Row.{row_words}
use Rattle.loops.proofs.Row.{rows_length}
use Rattle.loops.proofs.Withdrawal.{loops_never_grow}
use Rattle.loops.specs.Loops.{loops}
use Rattle.book.proofs.Goods.{good_lines}
use Rattle.loops.proofs.Sounding.{good_sound}
use Rattle.survey.proofs.Corrected.{place_is, has_line, rerun_good, withdrawal_good, its_line}
use Rattle.survey.specs.Correction.{rerun_lines, withdraw_lines}
use Rattle.loops.specs.Report.{loops_of, report_of}
use Rattle.demands.specs.Corrections.{Stands, OnlyChange}

-- ---- one number set

-- setting one number changes nothing else
pub set_changes : (lines : List ℤ) (p : ℕ) (v : ℤ) → p < length lines → OnlyChange lines (set lines p v) p v
set_changes lines p v h = record {
  same_length = length-set lines p v;
  changed = get_or-set_same lines p v (pos 0) h;
  others_kept = λ q d. get_or-set_other lines p q v (pos 0) d;
}

module _ (lines : List ℤ) (number : ℤ) (i : ℕ) (stands : Stands lines number i) where
  -- a re-run sets one difference
  pub rerun_is_redone : (difference : ℤ) → standing (rerun_lines lines number difference) ≡ redone (suc i) difference (standing lines)
  unfolding rerun_lines
  rerun_is_redone difference = rw (place_is stands difference_field) (rerun_sets_difference lines i difference (has_line stands))

  -- a withdrawal takes one line from those that stand
  pub withdrawal_is_without : standing (withdraw_lines lines number) ≡ without (suc i) (standing lines)
  unfolding withdraw_lines
  withdrawal_is_without = rw (place_is stands standing_field) (withdrawal_sets_standing lines i (has_line stands))

-- ---- the book stays good

module _ (book : Lent) (number : ℤ) (i : ℕ) (stands : Stands book.lines number i) (k : Book) (good : GoodBook k book) where
  -- of the corrected book only its lines are to be looked at again
  with_lines_lem : (f : ℕ) (v : ℤ) → f < class_field
      → ((j : ℕ) → GoodLine k.marks book.lines j → GoodLine k.marks (set book.lines (place i f) v) j)
      → GoodBook k (with_lines book (set book.lines (place i f) v))
  with_lines_lem f v before h = record {
    version = good.version;
    marks = good.marks;
    a_mark = good.a_mark;
    few_marks = good.few_marks;
    tolerance = good.tolerance;
    by_version = versioned_still (λ j. sym (field_kept book.lines i f v class_field (omega arith) (lit< tt) (λ e. omega arith) j))
        good.by_version;
    held_good = good.held_good;
    lines_good = record {
      few = good.lines_good.few;
      whole = length-set book.lines (place i f) v ∙ good.lines_good.whole;
      each = λ j l. h j (good.lines_good.each j l);
    };
  }

  -- a book with a line re-run inside the limit is good
  pub rerun_stays_good : (difference : ℤ) → nat_abs difference ≤ most_difference
      → GoodBook k (with_lines book (rerun_lines book.lines number difference))
  unfolding rerun_lines
  rerun_stays_good d small =
      rw (place_is stands difference_field)
      (with_lines_lem difference_field d (lit< tt) (λ j g. rerun_good k.marks book.lines i difference_field d
      (omega (arith, has_line stands)) j g refl small))

  -- a book with a line withdrawn is good
  pub withdrawal_stays_good : GoodBook k (with_lines book (withdraw_lines book.lines number))
  unfolding withdraw_lines
  withdrawal_stays_good =
      rw (place_is stands standing_field)
      (with_lines_lem standing_field (pos 0) (lit< tt) (λ j g. withdrawal_good k.marks book.lines i standing_field (pos 0)
      (omega (arith, has_line stands)) j g refl refl))

-- ---- the loops of the corrected book

-- a report is a row to a loop
pub report_length : (b t : ℕ) (lines : List ℤ) → length (report_of b t lines) ≡ row_words * length (loops_of b lines)
unfolding report_of
report_length b t lines = rows_length t (loops_of b lines)

module _ (lines : List ℤ) (number : ℤ) (i : ℕ) (stands : Stands lines number i) where
  -- after a re-run the loops are the old ones, but for the difference of the line
  pub rerun_loops : (b : ℕ) (difference : ℤ)
      → loops_of b (rerun_lines lines number difference) ≡ map (map (redone_pass (suc i) difference)) (loops_of b lines)
  unfolding loops_of
  rerun_loops b d = ap (loops b) (rerun_is_redone lines number i stands d) ∙ rerun_keeps_loops (suc i) d b (standing lines)

  -- a re-run keeps the count of loops
  pub rerun_keeps_rows : (b : ℕ) (difference : ℤ) → length (loops_of b (rerun_lines lines number difference)) ≡ length (loops_of b lines)
  rerun_keeps_rows b d = ap length (rerun_loops b d) ∙ length-map (loops_of b lines) (map (redone_pass (suc i) d))

-- a withdrawal never adds a loop
pub withdrawal_adds_no_row : (book : Lent) (number : ℤ) (i : ℕ) → Stands book.lines number i → (k : Book) → GoodBook k book
    → length (loops_of k.marks (withdraw_lines book.lines number)) ≤ length (loops_of k.marks book.lines)
unfolding loops_of
withdrawal_adds_no_row book number i stands k good =
    rw (withdrawal_is_without book.lines number i stands)
    (loops_never_grow k.marks (standing book.lines) (good_sound k book good) (line_at (suc i) book.lines i)
    (its_line k book.lines (good_lines k book good) number i stands))
