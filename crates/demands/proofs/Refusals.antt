-- Demand 1, "No input breaks it": every call gives the refusal that document 01's table and order name, and no other, and a refused call
-- changes nothing.
-- Assumes nothing.
use mathlib.Core.Path.{◌≡◌, refl, ◌∙◌, ap, ap₂}
use mathlib.Core.Bool.{Bool, true, false, not, cond, ◌||◌}
use mathlib.Core.List.{List, [], ◌∷◌, ◌++◌}
use Prim.Native.Nat.{ℕ, ◌+◌, ◌*◌, ◌%◌}
use native.Mathlib.Omega.{arith}
use lib.Dec.{eqb, ltb}
use lib.ListN.{length, drop}
use lib.IntN.{ℤ, pos, nat_abs}
use borrow.Author.Tests.{eq-eqb}
use Rattle.book.specs.Lent.{Lent}
use Rattle.book.specs.Held.{held_words}
use Rattle.book.specs.Line.{line_words, difference_out}
use Rattle.book.specs.Version.{version_out}
use Rattle.book.specs.Test.{torn, book_out, refusal}
use Rattle.book.specs.declared.Book.{Book}
use Rattle.book.specs.Refusals.{Told}
use Rattle.file.specs.Read as read
use Rattle.file.specs.Read.{Outcome, answered, stated_length, stated_version, stated_t, stated_b}
use Rattle.file.specs.Read.{stated_h, stated_n, stated_counts, file_length}
use Rattle.file.specs.Read.{head_of, held_of, lines_of, book_in, room_of, body_of, after_head, read_of}
use Rattle.file.specs.declared.entry.Kind.TheVariants as kind
use Rattle.file.proofs.Entries.{entries_length, lines_length}
use Rattle.file.proofs.Reading.{held_entries, line_entries}
use Rattle.loops.specs.Row.{listings}
use Rattle.loops.specs.Report.{loops_of}
use Rattle.survey.specs.Report as survey
use Rattle.survey.specs.Report.{counted}
use Rattle.survey.specs.Survey.{Surveyed, surveyed, survey_good, survey_of}
use Rattle.lists.specs.Listing as lists
use Rattle.lists.specs.Listing.{Listing, listing, list_of, listing_good, listing_of, listings_good, listings_of}
use Rattle.lists.specs.NotChecked.{unchecked_of, not_checked_of}
use Rattle.survey.specs.Correction.{Corrected, corrected, correct_good, correct_of, rerun_lines, withdraw_lines, rerun_of, withdraw_of}
use Rattle.demands.specs.Rules.{LowestGiven}
use Rattle.demands.specs.Calls.{afresh, survey_done, list_done, correction_done, read_done, SurveyKeepsToTable, ListingKeepsToTable}
use Rattle.demands.specs.Calls.{ListingsKeepsToTable, NotCheckedKeepsToTable, RerunKeepsToTable, WithdrawalKeepsToTable}
use Rattle.demands.specs.Calls.{ReaderKeepsToTable}
use Rattle.demands.specs.Tables.{book_fault, held_rule, line_rule, room_rule, rooms_rule, survey_rules, loop_listing, loop_rules}
use Rattle.demands.specs.Tables.{correction_rules, listing_rules, listings_rules, not_checked_rules, rerun_rules, withdraw_rules}
use Rattle.demands.specs.Tables.{file_rules}
use Rattle.demands.proofs.Rules.{by_rules, cond_or, keeps_to_table, lowest_is_given}
use Rattle.demands.proofs.BookRules.{by_the_test, by_the_test_beside}

module _ (book : Lent) where
  -- the survey keeps to its table: 3, 4, 6, 7, 10
  pub survey_keeps_to_table : (out : List ℤ) → SurveyKeepsToTable book out (survey_of book out)
  unfolding survey_of survey_rules by_rules counted
  survey_keeps_to_table out =
      keeps_to_table (λ r. refl) refl refl
      (by_the_test book (λ k. survey_good k book.lines out) (room_rule out (afresh book) ∷ [])
      (λ r. surveyed (survey.refused_with r) out) (survey_done book out) refl)

  -- the listing of a loop keeps to its table: 3, 4, 6, 7, 8, 10
  pub listing_keeps_to_table : (number : ℤ) (out : List ℤ) → ListingKeepsToTable book number out (listing_of book number out)
  unfolding listing_of listing_rules loop_listing by_rules
  listing_keeps_to_table number out =
      keeps_to_table (λ r. refl) refl refl
      (by_the_test book (λ k. listing_good k book.lines number out) (loop_rules book number out) (λ r. listing (lists.refused_with r) out)
      (list_done (loop_listing book number) out) refl)

  -- the listing of all loops keeps to its table: 3, 4, 6, 7, 10
  pub listings_keeps_to_table : (out : List ℤ) → ListingsKeepsToTable book out (listings_of book out)
  unfolding listings_of listings_rules by_rules
  listings_keeps_to_table out =
      keeps_to_table (λ r. refl) refl refl
      (by_the_test book (λ k. listings_good k book.lines out) (room_rule out (listings (loops_of (nat_abs book.b) book.lines)) ∷ [])
      (λ r. listing (lists.refused_with r) out)
      (list_done (listings (loops_of (nat_abs book.b) book.lines)) out) refl)

  -- the not-checked list keeps to its table: 3, 4, 6, 7, 10
  pub not_checked_keeps_to_table : (out : List ℤ) → NotCheckedKeepsToTable book out (not_checked_of book out)
  unfolding not_checked_of not_checked_rules by_rules
  not_checked_keeps_to_table out =
      keeps_to_table (λ r. refl) refl refl
      (by_the_test book (λ k. list_of (unchecked_of k.marks book.lines) out)
      (room_rule out (unchecked_of (nat_abs book.b) book.lines) ∷ []) (λ r. listing (lists.refused_with r) out)
      (list_done (unchecked_of (nat_abs book.b) book.lines) out) refl)

  -- withdrawal keeps to its table: 3, 4, 6, 7, 8, 9
  pub withdrawal_keeps_to_table : (report : List ℤ) (number : ℤ)
      → WithdrawalKeepsToTable book report number (withdraw_of book report number)
  unfolding withdraw_of correct_of withdraw_rules by_rules counted
  withdrawal_keeps_to_table report number =
      keeps_to_table (λ r. refl) refl refl
      (by_the_test book (λ k. correct_good k book.lines report number (withdraw_lines book.lines number))
      (correction_rules book report number)
      (λ r. corrected (survey.refused_with r) book.lines report) (correction_done book report (withdraw_lines book.lines number)) refl)

  -- re-run keeps to its table: 3, 4, 6, 7, 8, 9
  pub rerun_keeps_to_table : (report : List ℤ) (number difference : ℤ)
      → RerunKeepsToTable book report number difference (rerun_of book report number difference)
  unfolding rerun_of correct_of rerun_rules by_rules counted
  rerun_keeps_to_table report number difference =
      keeps_to_table (λ r. refl) refl refl
      (by_the_test_beside (difference_out difference) book
      (λ k. correct_good k book.lines report number (rerun_lines book.lines number difference))
      (correction_rules book report number)
      (λ r. corrected (survey.refused_with r) book.lines report)
      (correction_done book report (rerun_lines book.lines number difference)) refl)

  -- ---- "Where several apply, the lowest number is given": the numbers of each table rise

  pub survey_gives_the_lowest : (out : List ℤ) → LowestGiven (survey_rules book out) (survey_of book out).answer.refusal
  unfolding survey_rules
  survey_gives_the_lowest out = lowest_is_given refl (survey_keeps_to_table out).table

  pub listing_gives_the_lowest : (number : ℤ) (out : List ℤ)
      → LowestGiven (listing_rules book number out) (listing_of book number out).answer.refusal
  unfolding listing_rules
  listing_gives_the_lowest number out = lowest_is_given refl (listing_keeps_to_table number out).table

  pub listings_gives_the_lowest : (out : List ℤ) → LowestGiven (listings_rules book out) (listings_of book out).answer.refusal
  unfolding listings_rules
  listings_gives_the_lowest out = lowest_is_given refl (listings_keeps_to_table out).table

  pub not_checked_gives_the_lowest : (out : List ℤ) → LowestGiven (not_checked_rules book out) (not_checked_of book out).answer.refusal
  unfolding not_checked_rules
  not_checked_gives_the_lowest out = lowest_is_given refl (not_checked_keeps_to_table out).table

  pub withdrawal_gives_the_lowest : (report : List ℤ) (number : ℤ)
      → LowestGiven (withdraw_rules book report number) (withdraw_of book report number).answer.refusal
  unfolding withdraw_rules
  withdrawal_gives_the_lowest report number = lowest_is_given refl (withdrawal_keeps_to_table report number).table

  pub rerun_gives_the_lowest : (report : List ℤ) (number difference : ℤ)
      → LowestGiven (rerun_rules book report number difference) (rerun_of book report number difference).answer.refusal
  unfolding rerun_rules
  rerun_gives_the_lowest report number difference = lowest_is_given refl (rerun_keeps_to_table report number difference).table

  -- ---- "After a refusal the counts are 0 and no lent buffer has changed."

  -- a refused survey: no rows, no pieces, and the output as it was
  pub refused_survey_changes_nothing : (out : List ℤ) → let s = survey_of book out in (s.answer.refusal.number ≡ 0 → ⊥)
      → (s.answer.rows ≡ 0) × (s.answer.pieces ≡ 0) × (s.rows ≡ out)
  refused_survey_changes_nothing out h = let e = (survey_keeps_to_table out).refused h in
      (ap (λ (s : Surveyed). s.answer.rows) e, ap (λ (s : Surveyed). s.answer.pieces) e, ap (λ (s : Surveyed). s.rows) e)

  -- a refused listing: no entries, and the output as it was
  pub refused_listing_changes_nothing : (number : ℤ) (out : List ℤ)
      → let l = listing_of book number out in (l.answer.refusal.number ≡ 0 → ⊥)
      → (l.answer.entries ≡ 0) × (l.out ≡ out)
  refused_listing_changes_nothing number out h = let e = (listing_keeps_to_table number out).refused h in
      (ap (λ (l : Listing). l.answer.entries) e, ap (λ (l : Listing). l.out) e)

  -- a refused listing of all loops: no entries, and the output as it was
  pub refused_listings_changes_nothing : (out : List ℤ) → let l = listings_of book out in (l.answer.refusal.number ≡ 0 → ⊥)
      → (l.answer.entries ≡ 0) × (l.out ≡ out)
  refused_listings_changes_nothing out h = let e = (listings_keeps_to_table out).refused h in
      (ap (λ (l : Listing). l.answer.entries) e, ap (λ (l : Listing). l.out) e)

  -- a refused not-checked list: no entries, and the output as it was
  pub refused_not_checked_changes_nothing : (out : List ℤ) → let l = not_checked_of book out in (l.answer.refusal.number ≡ 0 → ⊥)
      → (l.answer.entries ≡ 0) × (l.out ≡ out)
  refused_not_checked_changes_nothing out h = let e = (not_checked_keeps_to_table out).refused h in
      (ap (λ (l : Listing). l.answer.entries) e, ap (λ (l : Listing). l.out) e)

  -- a refused withdrawal: no rows, no pieces, and lines and report as they were
  pub refused_withdrawal_changes_nothing : (report : List ℤ) (number : ℤ)
      → let c = withdraw_of book report number in (c.answer.refusal.number ≡ 0 → ⊥)
      → (c.answer.rows ≡ 0) × (c.answer.pieces ≡ 0) × (c.lines ≡ book.lines) × (c.report ≡ report)
  refused_withdrawal_changes_nothing report number h = let e = (withdrawal_keeps_to_table report number).refused h in (
    ap (λ (c : Corrected). c.answer.rows) e,
    ap (λ (c : Corrected). c.answer.pieces) e,
    ap (λ (c : Corrected). c.lines) e,
    ap (λ (c : Corrected). c.report) e,
  )

  -- a refused re-run: no rows, no pieces, and lines and report as they were
  pub refused_rerun_changes_nothing : (report : List ℤ) (number difference : ℤ)
      → let c = rerun_of book report number difference in (c.answer.refusal.number ≡ 0 → ⊥)
      → (c.answer.rows ≡ 0) × (c.answer.pieces ≡ 0) × (c.lines ≡ book.lines) × (c.report ≡ report)
  refused_rerun_changes_nothing report number difference h = let e = (rerun_keeps_to_table report number difference).refused h in (
    ap (λ (c : Corrected). c.answer.rows) e,
    ap (λ (c : Corrected). c.answer.pieces) e,
    ap (λ (c : Corrected). c.lines) e,
    ap (λ (c : Corrected). c.report) e,
  )

-- ---- the file

module _ (file : List ℕ) (held lines : List ℤ) where
  -- the entries that are read are whole, and as many as stated: of 4 only the stated counts are left
  abbrev counts_out : Bool
  counts_out = book_out (pos (stated_version file)) (pos (stated_b file)) (pos (stated_t file)) (stated_h file) (stated_n file)

  pub no_other_fault : counts_out ≡ false → book_fault (book_in file (stated_counts file)) ≡ false
  unfolding book_fault torn held_of
  no_other_fault e =
      let k = stated_counts file in
      let counted = ap₂ (book_out (pos (stated_version file)) (pos (stated_b file)) (pos (stated_t file)))
      (held_entries file held lines k) (line_entries file held lines k) ∙ e in
      rw (
        counted,
        entries_length kind.Held file 13 (stated_h file),
        lines_length file k,
        eq-eqb (stated_h file * held_words % held_words) 0 (omega arith),
        eq-eqb (stated_n file * line_words % line_words) 0 (omega arith),
      )

  refuse : Told → Outcome
  refuse r = answered held lines (read.refused_with r)

  -- 10, or the book read
  room : (k : Book) → room_of file k held lines
      ≡ cond (ltb (length held) (k.held * held_words) || ltb (length lines) (k.lines * line_words)) (refuse (refusal 10 0)) (record {
        answer = read.done k;
        held = held_of file k ++ drop (k.held * held_words) held;
        lines = lines_of file k ++ drop (k.lines * line_words) lines;
      })
  unfolding room_of refuse
  room k = cond_or (ltb (length held) (k.held * held_words)) (ltb (length lines) (k.lines * line_words)) _ _

  -- 6 and 7, then 10
  body : version_out (pos (stated_version file)) ≡ false → counts_out ≡ false
      → body_of file (stated_counts file) held lines
      ≡ by_rules (held_rule (book_in file (stated_counts file)) ∷ line_rule (book_in file (stated_counts file)) ∷ rooms_rule file held lines
      ∷ []) refuse (read_done file held lines)
  unfolding body_of by_rules refuse
  body known e =
      by_the_test (book_in file (stated_counts file))
      (λ _. room_of file (stated_counts file) held lines) (rooms_rule file held lines ∷ []) refuse (read_done file held lines)
      (room (stated_counts file))
      ∙ rw (known, no_other_fault e)

  -- the reader keeps to its table: 1 to 7, 10
  pub reader_keeps_to_table : ReaderKeepsToTable file held lines (read_of file held lines)
  unfolding read_of after_head head_of file_rules by_rules refuse
  reader_keeps_to_table =
      keeps_to_table (λ r. refl) refl refl
      (go (ltb (length file) 13) (not (eqb (stated_length file) (length file)))
      (version_out (pos (stated_version file))) refl counts_out refl
      (not (eqb (length file) (file_length (stated_version file) (stated_h file) (stated_n file)))))
    where
      k : Book
      k = stated_counts file

      rest : Outcome
      rest =
          by_rules (held_rule (book_in file (stated_counts file)) ∷ line_rule (book_in file (stated_counts file))
          ∷ rooms_rule file held lines
          ∷ []) refuse (read_done file held lines)

      go : (x y z : Bool) → version_out (pos (stated_version file)) ≡ z → (f : Bool) → counts_out ≡ f → (w : Bool)
          → after_head file held lines (cond x (read.Refused 1)
          (cond y (read.Refused 2) (cond z (read.Refused 3) (cond f (read.Refused 4) (cond w (read.Refused 5) (read.States k))))))
          ≡ cond x (refuse (refusal 1 0)) (cond y (refuse (refusal 2 0))
          (cond z (refuse (refusal 3 0)) (cond f (refuse (refusal 4 0)) (cond w (refuse (refusal 5 0)) rest))))
      go true y z v f e w = refl
      go false true z v f e w = refl
      go false false true v f e w = refl
      go false false false v true e w = refl
      go false false false v false e true = refl
      go false false false v false e false = body v e

  pub reader_gives_the_lowest : LowestGiven (file_rules file held lines) (read_of file held lines).answer.refusal
  unfolding file_rules
  reader_gives_the_lowest = lowest_is_given refl reader_keeps_to_table.table

  -- a refused file: version, b, t, h and n are 0, and both buffers are as they were
  pub refused_reader_changes_nothing : let o = read_of file held lines in (o.answer.refusal.number ≡ 0 → ⊥)
      → (o.answer.version ≡ 0) × (o.answer.b ≡ 0) × (o.answer.t ≡ 0) × (o.answer.h ≡ 0) × (o.answer.n ≡ 0)
      × (o.held ≡ held) × (o.lines ≡ lines)
  refused_reader_changes_nothing h = let e = reader_keeps_to_table.refused h in (
    ap (λ (o : Outcome). o.answer.version) e,
    ap (λ (o : Outcome). o.answer.b) e,
    ap (λ (o : Outcome). o.answer.t) e,
    ap (λ (o : Outcome). o.answer.h) e,
    ap (λ (o : Outcome). o.answer.n) e,
    ap (λ (o : Outcome). o.held) e,
    ap (λ (o : Outcome). o.lines) e,
  )
