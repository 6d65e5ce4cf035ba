-- Demand 1, the inputs that it names: "a line from a mark to itself, a report that is not this book's"; a faulty book at every call; and
-- request 04's, an unknown version and a class that is not the version's. (A damaged file: the reader's table, Refusals.antt.)
-- Assumes nothing.
use mathlib.Core.Path.{◌≡◌, refl, sym, ◌∙◌}
use mathlib.Core.Bool.{Bool, true, false, cond, ◌||◌, true≢false}
use mathlib.Core.List.{List, ◌++◌}
use Prim.Native.Nat.{ℕ, zero, suc, ◌≤◌, ◌<◌}
use native.Mathlib.Decide.{dec_le}
use native.Mathlib.Omega.{arith}
use lib.Dec.{ltb}
use lib.ListN.{length, drop}
use lib.IntN.{ℤ, pos, nat_abs}
use borrow.Author.Tests.{lt-ltb}
use Rattle.laws.specs.Tests.{out_z, eq_z}
use Rattle.laws.proofs.Tests.{eq_z_same}
use Rattle.laws.proofs.Scans.{none_bad}
use Rattle.laws.proofs.Inside.{size_inside}
use Rattle.book.specs.Lent.{Lent}
use Rattle.book.specs.Limits.{most_difference, least_length, most_length}
use Rattle.book.specs.Held.{first_bad_held}
use Rattle.book.specs.Line.{from_at, to_at, difference_at, length_at, standing_at, class_at, line_count, difference_out, line_fault}
use Rattle.book.specs.Line.{class_fault, first_fault, fault_at, line_bad, first_bad_line}
use Rattle.book.specs.Version.{version_out, class_out}
use Rattle.book.specs.Test.{refused, test_of, test_beside, refusal}
use Rattle.book.proofs.Goods.{beside_inside}
use Rattle.book.specs.declared.Book.{Book}
use Rattle.book.specs.Refusals.{Told}
use Rattle.book.specs.Test.{Good, Refused}
use Rattle.loops.specs.Report.{report_of}
use Rattle.survey.specs.Report as survey
use Rattle.survey.specs.Survey.{survey_of}
use Rattle.lists.specs.Listing.{listing_of, listings_of}
use Rattle.lists.specs.NotChecked.{not_checked_of}
use Rattle.survey.specs.Correction.{corrected, other_report, correct_of, correct_good, rerun_of, withdraw_of}
use Rattle.junctions.specs.Call.{sketch_call}
use Rattle.writer.specs.Write.{write_of}
use Rattle.rates.specs.Rates.{heights_out, rate_answer}
use Rattle.adjust.proofs.Calling.{by_refusal}
use Rattle.demands.specs.Tables.{book_fault}
use Rattle.demands.specs.Calls.{SameAtEveryCall, ThreeAtEveryCall}
use Rattle.demands.specs.Corrections.{Stands}
use Rattle.demands.proofs.Rules.{by_rules}
use Rattle.demands.proofs.Meanings.{line_exactly_if_stands, line_place_is_first, report_exactly_if_rows}
use Rattle.demands.proofs.BookRules.{test_by_rules}

-- ---- a faulty book

-- a book that the test refuses gets the same refusal from every call
pub faulty_book_same_at_every_call : (book : Lent) (r : Told) → test_of book ≡ Refused r → SameAtEveryCall book r
unfolding survey_of listing_of listings_of not_checked_of sketch_call withdraw_of rerun_of correct_of difference_out rate_answer
    heights_out write_of
faulty_book_same_at_every_call book r e = record {
  survey_of_lem = λ out. rw e;
  listing_of_lem = λ loop out. rw e;
  listings_of_lem = λ out. rw e;
  not_checked = λ out. rw e;
  sketch_of = λ out. rw e;
  withdrawal = λ report line. rw e;
  re_run = λ report line difference small. rw (beside_inside book _ (size_inside most_difference difference small), e);
  adjustment = λ out. by_refusal book out _ e;
  written = λ file. rw e;
  rate = λ heights line as_many. rw (beside_inside book (heights_out book heights) (rw (as_many, eq_z_same book.b)), e);
}

-- ---- an unknown version

-- a book of an unknown version is refused with 3 by every call, whatever else is wrong with what it is lent
pub unknown_version_is_three : (book : Lent) → version_out book.version ≡ true → ThreeAtEveryCall book
unfolding test_of test_beside rerun_of correct_of rate_answer
unknown_version_is_three book e = record {
  every_call = faulty_book_same_at_every_call book (refusal 3 0) (rw e);
  before_the_difference = λ report line difference. rw e;
  before_the_heights = λ heights line. rw e;
}

-- ---- a faulty line

module _ (book : Lent) (no_three : version_out book.version ≡ false) (no_four : book_fault book ≡ false)
    (no_six : first_bad_held book.b book.held ≡ 0) where
  -- where 3, 4 and 6 do not apply, a faulty line is refused with 7, at it or at a faulty line before it
  pub faulty_line_is_refused : (i : ℕ) → i < line_count book.lines → line_bad book.version book.b book.lines i ≡ true
      → (j : ℕ) × (j ≤ i) × (test_of book ≡ refused 7 (suc j))
  unfolding first_bad_line by_rules
  faulty_line_is_refused i there bad = go (first_bad_line book.version book.b book.lines) refl
    where
      go : (n : ℕ) → first_bad_line book.version book.b book.lines ≡ n → (j : ℕ) × (j ≤ i) × (test_of book ≡ refused 7 (suc j))
      go zero e =
          absurd (true≢false (sym bad ∙ none_bad (line_bad book.version book.b book.lines) (line_count book.lines) e i there))
      go (suc j) e = (j, before (dec_le j i), test_by_rules book ∙ rw (no_three, no_four, no_six, e, lt-ltb 0 (suc j) (omega arith)))
        where
          before : Dec (j ≤ i) → j ≤ i
          before (yes h) = h
          before (no h) =
              absurd (true≢false (sym bad ∙ (line_place_is_first book.version book.b book.lines j e).2 i (omega arith)))

  -- a line from a mark to itself is refused so
  pub line_to_itself_is_refused : (i : ℕ) → i < line_count book.lines → from_at book.lines i ≡ to_at book.lines i
      → (j : ℕ) × (j ≤ i) × (test_of book ≡ refused 7 (suc j))
  unfolding line_bad fault_at line_fault
  line_to_itself_is_refused i there same =
      faulty_line_is_refused i there (rw same (go (out_z (pos 1) book.b (to_at book.lines i) || out_z (pos 1) book.b
      (to_at book.lines i))))
    where
      rest : ℕ
      rest =
          cond (difference_out (difference_at book.lines i)) 3
          (cond (out_z (pos least_length) (pos most_length) (length_at book.lines i)) 4
          (cond (out_z (pos 0) (pos 1) (standing_at book.lines i)) 5 0))

      go : (x : Bool) → ltb 0 (first_fault (cond x 1 (cond (eq_z (to_at book.lines i) (to_at book.lines i)) 2 rest))
          (class_fault book.version (class_at book.lines i))) ≡ true
      go true = refl
      go false = rw (eq_z_same (to_at book.lines i))

  -- and so is a line, standing or withdrawn, whose class is not one of the book's version
  pub other_class_is_refused : (i : ℕ) → i < line_count book.lines → class_out book.version (class_at book.lines i) ≡ true
      → (j : ℕ) × (j ≤ i) × (test_of book ≡ refused 7 (suc j))
  unfolding line_bad fault_at class_fault
  other_class_is_refused i there out = faulty_line_is_refused i there (rw out (go (line_fault book.b _ _ _ _ _)))
    where
      go : (f : ℕ) → ltb 0 (first_fault f 6) ≡ true
      go zero = refl
      go (suc f) = rw (lt-ltb 0 (suc f) (omega arith)) (lt-ltb 0 (suc f) (omega arith))

-- ---- a report that is not this book's

module _ (book : Lent) (report : List ℤ) (k : Book) (passes : test_of book ≡ Good k) (number : ℤ) (i : ℕ)
    (stands : Stands book.lines number i)
    (other : report ≡ report_of k.marks k.tolerance book.lines ++ drop
    (length (report_of k.marks k.tolerance book.lines)) report → ⊥) where
  differs : other_report report (report_of k.marks k.tolerance book.lines) ≡ true
  differs = go (other_report report (report_of k.marks k.tolerance book.lines)) refl
    where
      go : (x : Bool) → other_report report (report_of k.marks k.tolerance book.lines) ≡ x → x ≡ true
      go true e = refl
      go false e = absurd (other ((report_exactly_if_rows report (report_of k.marks k.tolerance book.lines)).0 e))

  -- a withdrawal with a report that is not this book's is refused with 9, and lines and report stay as they are
  pub other_report_is_refused : withdraw_of book report number ≡ corrected (survey.refused_with (refusal 9 0)) book.lines report
  unfolding withdraw_of correct_of correct_good
  other_report_is_refused = rw (passes, (line_exactly_if_stands book.lines number).1 (i, stands), differs)

  -- and so is a re-run
  pub other_report_is_refused_in_rerun : (difference : ℤ) → nat_abs difference ≤ most_difference
      → rerun_of book report number difference ≡ corrected (survey.refused_with (refusal 9 0)) book.lines report
  unfolding rerun_of correct_of correct_good difference_out
  other_report_is_refused_in_rerun difference small =
      rw (
        beside_inside book _ (size_inside most_difference difference small),
        passes,
        (line_exactly_if_stands book.lines number).1 (i, stands),
        differs,
      )
