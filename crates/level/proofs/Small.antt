-- Every number of an answer fits an int64: marks, lines and rows are few, and a refusal's number and place are small.
-- Assumes nothing.
use Prim.Native.Nat.{ℕ, ◌-◌, ◌≤◌}
use native.Mathlib.Omega.{arith}
use mathlib.Core.Path.{◌≡◌, sym, subst}
use mathlib.Core.Logic.{inl, inr}
use mathlib.Core.Bool.{false}
use mathlib.Core.List.{List, map}
use lib.Dec.{ltb}
use borrow.Author.Tests.{ltb-false}
use lib.IntN.{ℤ, pos, nat_abs}
use lib.ListN.{length, get_or}
use Rattle.laws.specs.Tests.{out_z, eq_z}
use Rattle.laws.proofs.Tests.{cond_ind}
use Rattle.laws.proofs.Size.{between, size_within}
use Rattle.laws.proofs.Scans.{first_most}
use Rattle.book.specs.Limits.{most_difference, most_lines}
use Rattle.book.specs.Line.{difference_out, standing_at}
use Rattle.book.specs.Height.{work_height_out}
use Rattle.book.specs.Lent.{Lent}
use Rattle.book.specs.Test.{refusal, test_of, test_beside}
use Rattle.book.specs.declared.Book.{Book}
use Rattle.book.specs.Refusals.{Told}
use Rattle.book.specs.Test.{Tested}
use Rattle.book.specs.Test.{Good, Refused}
use Rattle.book.proofs.IfGood.{either_way}
use Rattle.book.proofs.Goods.{Numbered, tested_good, tested_numbered, beside_passes, beside_numbered, good_lines}
use Rattle.book.proofs.Versions.{known_version, small_tolerance}
use Rattle.network.specs.Standing.{standing}
use Rattle.network.proofs.Entries.{tree_lines_count}
use Rattle.book.specs.Good.{GoodLines}
use Rattle.loops.specs.Report.{loops_of, report_of, pieces_of}
use Rattle.survey.specs.Report as survey
use Rattle.survey.specs.Report.{counted}
use Rattle.survey.specs.Survey.{Surveyed, survey_good, survey_of}
use Rattle.survey.specs.Correction.{Corrected, no_line, other_report, correct_good, correct_of}
use Rattle.survey.specs.Correction.{rerun_lines, withdraw_lines, rerun_of, withdraw_of}
use Rattle.lists.specs.Listing as lists
use Rattle.lists.specs.Listing.{Listing, list_of, listing_good, listing_of, listings_good, listings_of}
use Rattle.lists.specs.NotChecked.{unchecked_of, not_checked_of}
use Rattle.loops.specs.Loops.{loop_at}
use Rattle.loops.specs.Row.{listed, listings}
use Rattle.loops.proofs.Sounding.{lines_sound, few_loops}
use Rattle.survey.proofs.Corrected.{stands_of, rerun_lines_good, withdrawn_lines_good}
use Rattle.junctions.specs.Call as junctions
use Rattle.junctions.specs.Call.{Lists, Drawing, lists_of, any_short, sketch_in, drawn_into, sketch_good, sketch_call}
use Rattle.junctions.proofs.Few.{few}
use Rattle.rates.specs.Rates as rates
use Rattle.rates.specs.Rates.{line_rate, first_high, good_rate, heights_out, rate_answer}
use Rattle.rates.proofs.Rating.{marks_of}
use Rattle.file.specs.Read.{length_of, read_of}
use Rattle.file.proofs.Reading.{ReadOrRefused, read_or_refused}
use Rattle.writer.specs.Write as writer
use Rattle.writer.specs.Write.{Writing, cannot_say, write_good, write_of}
use Rattle.level.specs.Signed.{Small, SmallRead}
use Rattle.level.specs.Writings.{SmallWritten}
use Rattle.level.specs.Answers.{SmallAnswer}
use Rattle.level.specs.Listings.{SmallListed}
use Rattle.level.specs.Rating.{SmallRate}
use Rattle.level.specs.Sketches.{SmallSketched}

pub read_small : (file : List ℕ) (held lines : List ℤ) → SmallRead (read_of file held lines).answer
read_small file held lines = go (read_or_refused file held lines)
  where
    go : ReadOrRefused file held lines (read_of file held lines) → SmallRead (read_of file held lines).answer
    go (inl r) = let g = r.good in
        subst SmallRead (sym r.answer) (record {
          refusal = record { number = omega arith; place = omega arith };
          version = omega (arith, known_version g.by_version);
          b = omega (arith, g.few_marks);
          t = omega (arith, small_tolerance g.by_version);
          h = omega (arith, g.held_good.few);
          n = omega (arith, g.lines_good.few);
        })
    go (inr f) =
        subst SmallRead (sym f.answer) (record {
          refusal = record { number = omega (arith, f.high); place = omega (arith, f.near) };
          version = omega arith;
          b = omega arith;
          t = omega arith;
          h = omega arith;
          n = omega arith;
        })

unwritten_small : (number place : ℕ) → number ≤ 16 → place ≤ most_lines → SmallWritten (writer.refused_with (refusal number place))
unwritten_small number place high near = record { refusal = record { number = omega arith; place = omega arith }; bytes = omega arith }

-- no more bytes than places
pub write_small : (book : Lent) (file : List ℕ) → Small (length file) → SmallWritten (write_of book file).answer
unfolding write_of write_good
write_small book file small =
    either_way (test_of book) _ _ (λ (w : Writing). SmallWritten w.answer)
    (λ r e. let n = tested_numbered book r e in unwritten_small r.number r.place (omega (arith, n.high)) n.near)
    (λ k e.
    cond_ind (λ (w : Writing). SmallWritten w.answer) (cannot_say k book.lines) _ _
    (λ _. unwritten_small 16 0 (omega arith) (omega arith))
    (λ _.
    cond_ind (λ (w : Writing). SmallWritten w.answer) (ltb (length file) (length_of k)) _ _
    (λ _. unwritten_small 10 0 (omega arith) (omega arith))
    (λ fits. let f = ltb-false (length file) (length_of k) fits in record
    { refusal = record { number = omega arith; place = omega arith }; bytes = omega arith })))

refusal_small : (number place : ℕ) → number ≤ 13 → place ≤ most_lines → SmallAnswer (survey.refused_with (refusal number place))
refusal_small number place high near =
    record { refusal = record { number = omega arith; place = omega arith }; rows = omega arith; pieces = omega arith }

-- no more rows than lines, and no more pieces than marks
counted_small : (k : Book) (lines : List ℤ) → GoodLines k lines → SmallAnswer (counted k.marks lines)
unfolding counted pieces_of
counted_small k lines g =
    record {
      refusal = record { number = omega arith; place = omega arith };
      rows = omega (arith, few_loops k lines g, g.good.few);
      pieces = omega (arith, tree_lines_count k.marks (standing lines) (lines_sound k lines g), g.few_marks);
    }

unlisted_small : (number place : ℕ) → number ≤ 13 → place ≤ most_lines → SmallListed (lists.refused_with (refusal number place))
unlisted_small number place high near = record { refusal = record { number = omega arith; place = omega arith }; entries = omega arith }

-- no more entries than places
list_small : (list out : List ℤ) → Small (length out) → SmallListed (list_of list out).answer
unfolding list_of
list_small list out small =
    cond_ind (λ (o : Listing). SmallListed o.answer) (ltb (length out) (length list)) _ _
    (λ _. unlisted_small 10 0 (omega arith) (omega arith))
    (λ fits. let f = ltb-false (length out) (length list) fits in record
    { refusal = record { number = omega arith; place = omega arith }; entries = omega arith })

unsketched_small : (number place : ℕ) → number ≤ 13 → place ≤ most_lines → SmallSketched (junctions.refused_with (refusal number place))
unsketched_small number place high near = record {
  refusal = record { number = omega arith; place = omega arith };
  links = omega arith;
  spurs = omega arith;
  loops = omega arith;
  run = omega arith;
}

-- no more links, spurs and loops than lines
sketched_small : (k : Book) (lines : List ℤ) → GoodLines k lines → SmallSketched (junctions.drawn (sketch_in k.marks lines))
sketched_small k lines g =
    let f = few k lines g in
    record {
      refusal = record { number = omega arith; place = omega arith };
      links = omega (arith, f.links);
      spurs = omega (arith, f.spurs);
      loops = omega (arith, f.loops);
      run = omega (arith, f.lines);
    }

module _ (book : Lent) where
  -- the test's own refusals
  numbered_small : (r : Told) → Numbered r → SmallAnswer (survey.refused_with r)
  numbered_small r n = refusal_small r.number r.place (omega (arith, n.high)) n.near

  tested_small : (r : Told) → test_of book ≡ Refused r → SmallAnswer (survey.refused_with r)
  tested_small r e = numbered_small r (tested_numbered book r e)

  good_of : (k : Book) → test_of book ≡ Good k → GoodLines k book.lines
  good_of k e = good_lines k book (tested_good book k e)

  pub survey_small : (rows : List ℤ) → SmallAnswer (survey_of book rows).answer
  unfolding survey_of survey_good
  survey_small rows =
      either_way (test_of book) _ _ (λ (s : Surveyed). SmallAnswer s.answer) tested_small (λ k e.
      cond_ind (λ (s : Surveyed). SmallAnswer s.answer) (ltb (length rows)
      (length (report_of k.marks k.tolerance book.lines))) _ _
      (λ _. refusal_small 10 0 (omega arith) (omega arith))
      (λ _. counted_small k book.lines (good_of k e)))

  module _ (report : List ℤ) (number : ℤ) where
    -- a correction leaves a good book good
    corrected_small : (tested : Tested) (new : List ℤ) → ((r : Told) → tested ≡ Refused r → SmallAnswer (survey.refused_with r))
        → ((k : Book) → tested ≡ Good k → no_line book.lines number ≡ false → GoodLines k new)
        → SmallAnswer (correct_of tested book report number new).answer
    unfolding correct_of correct_good
    corrected_small tested new bad good =
        either_way tested _ _ (λ (s : Corrected). SmallAnswer s.answer) bad (λ k e.
        cond_ind (λ (s : Corrected). SmallAnswer s.answer) (no_line book.lines number) _ _
        (λ _. refusal_small 8 0 (omega arith) (omega arith))
        (λ stands.
        cond_ind (λ (s : Corrected). SmallAnswer s.answer) (other_report report (report_of k.marks k.tolerance book.lines)) _ _
        (λ _. refusal_small 9 0 (omega arith) (omega arith))
        (λ _. counted_small k new (good k e stands))))

    pub rerun_small : (difference : ℤ) → SmallAnswer (rerun_of book report number difference).answer
    unfolding rerun_of difference_out
    rerun_small difference =
        let outside = difference_out difference in
        corrected_small (test_beside outside book) (rerun_lines book.lines number difference)
        (λ r e. numbered_small r (beside_numbered book outside r e))
        (λ k e stands. let p = beside_passes book outside k e in
        rerun_lines_good k book.lines (good_of k p.1) number (nat_abs number - 1) (stands_of book.lines number stands)
        difference (size_within most_difference difference p.0))

    pub withdraw_small : SmallAnswer (withdraw_of book report number).answer
    unfolding withdraw_of
    withdraw_small =
        corrected_small (test_of book) (withdraw_lines book.lines number) tested_small
        (λ k e stands. withdrawn_lines_good k book.lines (good_of k e) number (nat_abs number - 1)
        (stands_of book.lines number stands))

  module _ (out : List ℤ) (small : Small (length out)) where
    untested_small : (r : Told) → test_of book ≡ Refused r → SmallListed (lists.refused_with r)
    untested_small r e = let n = tested_numbered book r e in unlisted_small r.number r.place (omega (arith, n.high)) n.near

    pub listing_small : (number : ℤ) → SmallListed (listing_of book number out).answer
    unfolding listing_of listing_good
    listing_small number =
        either_way (test_of book) _ _ (λ (o : Listing). SmallListed o.answer) untested_small (λ k e.
        cond_ind (λ (o : Listing). SmallListed o.answer) (out_z (pos 1) (pos (length (loops_of k.marks book.lines))) number) _ _
        (λ _. unlisted_small 8 0 (omega arith) (omega arith))
        (λ _. list_small (map listed (loop_at (loops_of k.marks book.lines) (nat_abs number - 1))) out small))

    pub listings_small : SmallListed (listings_of book out).answer
    unfolding listings_of listings_good
    listings_small =
        either_way (test_of book) _ _ (λ (o : Listing). SmallListed o.answer) untested_small
        (λ k e. list_small (listings (loops_of k.marks book.lines)) out small)

    pub not_checked_small : SmallListed (not_checked_of book out).answer
    unfolding not_checked_of
    not_checked_small =
        either_way (test_of book) _ _ (λ (o : Listing). SmallListed o.answer) untested_small
        (λ k e. list_small (unchecked_of k.marks book.lines) out small)

  module _ (heights : List ℤ) (line : ℤ) where
    rate_refusal_small : (number place : ℕ) → number ≤ 13 → place ≤ most_lines → SmallRate (rates.refused_with (refusal number place))
    unfolding rates.refused_with
    rate_refusal_small number place high near =
        record { refusal = record { number = omega arith; place = omega arith }; line = omega arith }

    -- the line itself is one of the book's
    line_small : (i : ℕ) → nat_abs line ≤ most_lines → SmallRate (line_rate heights book.lines (nat_abs line) i)
    unfolding line_rate
    line_small i near =
        cond_ind SmallRate (eq_z (standing_at book.lines i) (pos 0)) _ _
        (λ _. record { refusal = record { number = omega arith; place = omega arith }; line = omega arith })
        (λ _. record { refusal = record { number = omega arith; place = omega arith }; line = omega arith })

    good_small : (k : Book) → k.lines ≤ most_lines → length heights ≤ most_lines → SmallRate (good_rate heights book.lines k line)
    unfolding good_rate first_high
    good_small k few short =
        cond_ind SmallRate (out_z (pos 1) (pos k.lines) line) _ _
        (λ _. rate_refusal_small 8 0 (omega arith) (omega arith))
        (λ inside.
        cond_ind SmallRate (ltb 0 (first_high heights)) _ _
        (λ _. rate_refusal_small 13 (first_high heights) (omega arith)
        (omega (arith, first_most (λ i. work_height_out (get_or heights i (pos 0))) (length heights))))
        (λ _. line_small (nat_abs line - 1) (omega (arith, (between 1 k.lines line inside).high))))

    pub rate_small : SmallRate (rate_answer book heights line)
    unfolding rate_answer
    rate_small =
        let outside = heights_out book heights in
        either_way (test_beside outside book) _ _ SmallRate
        (λ r e. let n = beside_numbered book outside r e in rate_refusal_small r.number r.place (omega (arith, n.high)) n.near)
        (λ k e. let p = beside_passes book outside k e in let g = tested_good book k p.1 in
        good_small k g.lines_good.few (omega (arith, marks_of book k p.1 heights p.0, g.few_marks)))

  pub sketch_small : (out : Lists) → SmallSketched (sketch_call book out).answer
  unfolding sketch_call sketch_good drawn_into
  sketch_small out =
      either_way (test_of book) _ _ (λ (o : Drawing). SmallSketched o.answer)
      (λ r e. let n = tested_numbered book r e in unsketched_small r.number r.place (omega (arith, n.high)) n.near)
      (λ k e.
      cond_ind (λ (o : Drawing). SmallSketched o.answer) (any_short (lists_of (sketch_in k.marks book.lines)) out) _ _
      (λ _. unsketched_small 10 0 (omega arith) (omega arith))
      (λ _. sketched_small k book.lines (good_of k e)))
