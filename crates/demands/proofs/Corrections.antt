-- Demand 3, "The kept report stays true under correction". Assumes nothing.
use mathlib.Core.Path.{◌≡◌, refl, sym, ◌∙◌, ap, subst}
use mathlib.Core.List.{List, [], ◌∷◌, ◌++◌, append_assoc, append-nil}
use Prim.Native.Nat.{ℕ, ◌+◌, ◌-◌, ◌≤◌}
use native.Mathlib.Decide.{ℕ_discrete}
use native.Mathlib.Omega.{arith}
use lib.ListN.{length, drop, replicate, length-append, replicate-append-replicate}
use lib.Seq.{drop-append_seam}
use lib.IntN.{ℤ, pos, nat_abs}
use Rattle.book.specs.Lent.{Lent, with_lines}
use Rattle.book.specs.Test.{test_of}
use Rattle.book.specs.Good.{GoodBook}
use Rattle.book.specs.declared.Book.{Book}
use Rattle.book.specs.Refusals.{Told}
use Rattle.book.specs.Test.{Good}
use Rattle.book.proofs.Goods.{tested_good}
use Rattle.book.proofs.Passing.{good_passes}
use Rattle.book.specs.Line.{difference_field, standing_field}
use Rattle.loops.specs.Report.{loops_of}
use Rattle.survey.specs.Report as survey
use Rattle.survey.specs.Report.{counted}
use Rattle.survey.specs.Survey.{surveyed, survey_of}
use Rattle.survey.specs.Correction.{Corrected, corrected, place_of, updated, rerun_lines, withdraw_lines, rerun_of, withdraw_of}
use Rattle.demands.specs.Calls.{afresh, correction_done}
use Rattle.demands.specs.Corrections.{Step, rerun, withdraw, correct, corrected_book, Accepted, no_more, accepted, book_after}
use Rattle.demands.specs.Corrections.{report_after, Acceptable, OnlyChange, KeptTrue}
use Rattle.demands.proofs.Refusals.{survey_keeps_to_table, rerun_keeps_to_table, withdrawal_keeps_to_table}
use Rattle.demands.proofs.Done.{survey_done_exactly_if, rerun_done_exactly_if, withdrawal_done_exactly_if}
use Rattle.survey.proofs.Corrected.{place_is, has_line}
use Rattle.demands.proofs.CorrectedBook.{set_changes, rerun_stays_good, withdrawal_stays_good, report_length, rerun_keeps_rows}
use Rattle.demands.proofs.CorrectedBook.{withdrawal_adds_no_row}

-- ---- one correction

-- the lines that a correction makes
new_lines : List ℤ → Step → List ℤ
new_lines lines (rerun number difference) = rerun_lines lines number difference
new_lines lines (withdraw number) = withdraw_lines lines number

-- the book with them
abbrev new_book : Lent → Step → Lent
new_book book s = with_lines book (new_lines book.lines s)

record Made (book : Lent) (report : List ℤ) (s : Step) : Type 0 where
  number : ℤ
  could : Acceptable book report number
  good : GoodBook could.counts (new_book book s)
  no_more_loops : length (loops_of could.counts.marks (new_lines book.lines s)) ≤ length (loops_of could.counts.marks book.lines)
  done : correct book report s ≡ correction_done book report (new_lines book.lines s)

made : (book : Lent) (report : List ℤ) (s : Step) → (correct book report s).answer.refusal.number ≡ 0 → Made book report s
unfolding new_lines
made book report (rerun number difference) z =
    let p = (rerun_done_exactly_if book report number difference).0 z in
    let a = p.1 in
    let good = tested_good book a.counts a.passes in
    record {
      number = number;
      could = a;
      good = rerun_stays_good book number a.line a.stands a.counts good difference p.0;
      no_more_loops = omega (arith, rerun_keeps_rows book.lines number a.line a.stands a.counts.marks difference);
      done = (rerun_keeps_to_table book report number difference).finished z;
    }
made book report (withdraw number) z =
    let a = (withdrawal_done_exactly_if book report number).0 z in
    let good = tested_good book a.counts a.passes in
    record {
      number = number;
      could = a;
      good = withdrawal_stays_good book number a.line a.stands a.counts good;
      no_more_loops = withdrawal_adds_no_row book number a.line a.stands a.counts good;
      done = (withdrawal_keeps_to_table book report number).finished z;
    }

-- the corrected book passes the test as before
passes_still : {book : Lent} {report : List ℤ} {s : Step} → Made book report s → test_of (new_book book s) ≡ test_of book
passes_still {book = book} {s = s} w = good_passes w.could.counts (new_book book s) w.good ∙ sym w.could.passes

-- and its report is no longer
shorter : {book : Lent} {report : List ℤ} {s : Step} → Made book report s → length (afresh (new_book book s)) ≤ length (afresh book)
shorter {book = book} {s = s} w =
    let m : nat_abs book.b ≡ w.could.counts.marks = ap nat_abs w.good.marks in
    omega (
      arith,
      report_length (nat_abs book.b) (nat_abs book.t) (new_lines book.lines s),
      report_length (nat_abs book.b) (nat_abs book.t) book.lines,
      rw (← m) at w.no_more_loops,
    )

module _ (book : Lent) (report : List ℤ) where
  -- a re-run sets the line's difference to the new one, "and nothing else in the book changes"
  pub rerun_sets_one_number : (number difference : ℤ) → (rerun_of book report number difference).answer.refusal.number ≡ 0
      → OnlyChange book.lines (rerun_of book report number difference).lines (place_of number difference_field) difference
  unfolding rerun_lines
  rerun_sets_one_number number difference z =
      let a = ((rerun_done_exactly_if book report number difference).0 z).1 in
      rw ((rerun_keeps_to_table book report number difference).finished z)
      (set_changes book.lines (place_of number difference_field) difference
      (omega (arith, place_is a.stands difference_field, has_line a.stands)))

  -- a withdrawal sets its standing to 0, "and nothing else in the book changes"
  pub withdrawal_sets_one_number : (number : ℤ) → (withdraw_of book report number).answer.refusal.number ≡ 0
      → OnlyChange book.lines (withdraw_of book report number).lines (place_of number standing_field) (pos 0)
  unfolding withdraw_lines
  withdrawal_sets_one_number number z =
      let a = (withdrawal_done_exactly_if book report number).0 z in
      rw ((withdrawal_keeps_to_table book report number).finished z)
      (set_changes book.lines (place_of number standing_field) (pos 0)
      (omega (arith, place_is a.stands standing_field, has_line a.stands)))

  -- a good book stays good: after an accepted correction no call refuses it for 4, 6 or 7
  pub accepted_book_stays_good : (s : Step) → (correct book report s).answer.refusal.number ≡ 0
      → test_of (corrected_book book report s) ≡ test_of book
  accepted_book_stays_good s z =
      let c = made book report s z in ap (λ (x : Corrected). test_of (with_lines book x.lines)) c.done ∙ passes_still c

  -- an accepted correction answers "the rows and pieces of the book as it then stands"
  pub accepted_counts_are_of_the_new_book : (s : Step) → (correct book report s).answer.refusal.number ≡ 0
      → (correct book report s).answer ≡ counted (nat_abs book.b) (correct book report s).lines
  accepted_counts_are_of_the_new_book s z = rw (made book report s z).done

  -- and leaves the report of the corrected book, zeros in a vacated row, and all places past the old rows as they were
  pub accepted_report_is_afresh : (s : Step) → (correct book report s).answer.refusal.number ≡ 0
      → let new = afresh (corrected_book book report s) in let old = afresh book in
      (correct book report s).report ≡ new ++ replicate (length old - length new) (pos 0) ++ drop (length old) report
  unfolding updated
  accepted_report_is_afresh s z = rw (made book report s z).done

-- ---- any number of corrections

-- n numbers of today's rows, zeros up to the m of the first survey's, then what followed them
abbrev padded : ℕ → List ℤ → List ℤ → List ℤ
padded m rows after = rows ++ replicate (m - length rows) (pos 0) ++ after

-- a report brought up to date stays so
padded_still : (report old new after : List ℤ) (m : ℕ) → length new ≤ length old → length old ≤ m → report ≡ padded m old after
    → updated report old new ≡ padded m new after
unfolding updated
padded_still report old new after m h l e =
    let gone : drop (length old) report ≡ replicate (m - length old) (pos 0) ++ after =
    ap (drop (length old)) (e ∙ append_assoc old (replicate (m - length old) (pos 0)) after)
    ∙ drop-append_seam old (replicate (m - length old) (pos 0) ++ after) in
    let zeros : m - length new ≡ length old - length new + (m - length old) = omega arith in
    rw (gone, zeros, ← replicate-append-replicate (length old - length new) (m - length old) (pos 0)) (simp append_assoc)

module _ (first : Lent) (out : List ℤ) where
  abbrev m : ℕ
  m = length (afresh first)

  record Holds (book : Lent) (report : List ℤ) : Type 0 where
    still_good : test_of book ≡ test_of first
    no_more_rows : length (afresh book) ≤ m
    report_is : report ≡ padded m (afresh book) (drop m out)

  -- an accepted correction keeps it so
  step_true : {book : Lent} {report : List ℤ} → Holds book report → (s : Step) → (correct book report s).answer.refusal.number ≡ 0
      → Holds (corrected_book book report s) (correct book report s).report
  step_true {book = book} {report = report} w s z =
      let c = made book report s z in
      subst (λ (x : Corrected). Holds (with_lines book x.lines) x.report) (sym c.done) (record {
        still_good = passes_still c ∙ w.still_good;
        no_more_rows = omega (arith, shorter c, w.no_more_rows);
        report_is = padded_still report (afresh book) (afresh (new_book book s)) (drop m out) m (shorter c) w.no_more_rows w.report_is;
      })

  -- a refused one changes nothing
  any_step_true : {book : Lent} {report : List ℤ} → Holds book report → (s : Step)
      → Holds (corrected_book book report s) (correct book report s).report
  any_step_true {book = book} {report = report} w s = go s (ℕ_discrete (correct book report s).answer.refusal.number 0)
    where
      same : {x : Corrected} {r : Told} → x ≡ corrected (survey.refused_with r) book.lines report
          → Holds (with_lines book x.lines) x.report
      same e = subst (λ (x : Corrected). Holds (with_lines book x.lines) x.report) (sym e) w

      go : (s : Step) → Dec ((correct book report s).answer.refusal.number ≡ 0)
          → Holds (corrected_book book report s) (correct book report s).report
      go s (yes z) = step_true w s z
      go (rerun number difference) (no h) = same ((rerun_keeps_to_table book report number difference).refused h)
      go (withdraw number) (no h) = same ((withdrawal_keeps_to_table book report number).refused h)

  stays_true : {book book' : Lent} {report report' : List ℤ} {steps : List Step} → Holds book report
      → Accepted book report steps book' report' → Holds book' report'
  stays_true w no_more = w
  stays_true w (accepted {s = s} z more) = stays_true (step_true w s z) more

  tries_true : {book : Lent} {report : List ℤ} → Holds book report → (steps : List Step)
      → Holds (book_after book report steps) (report_after book report steps)
  unfolding book_after report_after
  tries_true w [] = w
  tries_true {book = book} {report = report} w (s ∷ steps) =
      tries_true {book = corrected_book book report s} {report = (correct book report s).report} (any_step_true w s) steps

  module _ (done : (survey_of first out).answer.refusal.number ≡ 0) where
    did : (k : Book) × (test_of first ≡ Good k) × (m ≤ length out)
    did = (survey_done_exactly_if first out).0 done

    start : Holds first (survey_of first out).rows
    start = record {
      still_good = refl;
      no_more_rows = omega arith;
      report_is =
          let none : m - m ≡ 0 = omega arith in
          rw ((survey_keeps_to_table first out).finished done, none) (simp append-nil);
    }

    kept_true : {book : Lent} {report : List ℤ} → Holds book report → KeptTrue first out book report
    kept_true {book = book} {report = report} w =
        record {
          still_good = w.still_good;
          no_more_rows = w.no_more_rows;
          report_is = w.report_is;
          its_report_still = sym whole;
          surveyed_again = again;
        }
      where
        -- what follows the rows of today
        after : List ℤ
        after = replicate (m - length (afresh book)) (pos 0) ++ drop m out

        split : report ≡ afresh book ++ after
        split = w.report_is ∙ append_assoc (afresh book) (replicate (m - length (afresh book)) (pos 0)) (drop m out)

        whole : afresh book ++ drop (length (afresh book)) report ≡ report
        whole = rw (split, drop-append_seam (afresh book) after)

        again : survey_of book report ≡ surveyed (counted (nat_abs book.b) book.lines) report
        again =
            let room : length (afresh book) ≤ length report = omega (arith, simp length-append at (ap length split)) in
            (survey_keeps_to_table book report).finished ((survey_done_exactly_if book report).1 (did.0, w.still_good ∙ did.1, room))
            ∙ ap (surveyed (counted (nat_abs book.b) book.lines)) whole

    -- "After any sequence of accepted re-runs and withdrawals it equals the report worked out afresh from the corrected book."
    pub kept_report_stays_true : {steps : List Step} {book' : Lent} {report' : List ℤ}
        → Accepted first (survey_of first out).rows steps book' report'
        → KeptTrue first out book' report'
    kept_report_stays_true chain = kept_true (stays_true start chain)

    -- and so after any sequence of tries, those that are refused among them
    pub kept_report_stays_true_after_any_tries : (steps : List Step)
        → KeptTrue first out (book_after first (survey_of first out).rows steps) (report_after first (survey_of first out).rows steps)
    kept_report_stays_true_after_any_tries steps = kept_true (tries_true start steps)
