-- Demand 2 of the calls: what stands in the lent output after a survey, a listing and a not-checked list that are done. Assumes nothing.
use mathlib.Core.Path.{◌≡◌, refl, ◌∙◌, ap, subst}
use mathlib.Core.Logic.{◌↔◌}
use mathlib.Core.Bool.{false}
use mathlib.Core.List.Memᴰ
use mathlib.Core.List.{List, ◌∷◌, ◌++◌, map, Memᴰ}
use Prim.Native.Nat.{ℕ, zero, suc, ◌+◌, ◌*◌, ◌-◌, ◌≤◌, ◌<◌}
use native.Mathlib.Omega.{arith}
use native.Mathlib.Decide.{dec_le}
use lib.ListN.{length, get_or, take, drop, get_or-append}
use lib.Seq.{take-append_seam, drop-append_seam}
use lib.IntN.{ℤ, pos, nat_abs}
use Rattle.laws.proofs.Size.{between}
use Rattle.book.specs.Lent.{Lent}
use Rattle.book.specs.Test.{test_of}
use Rattle.book.specs.declared.Book.{Book}
use Rattle.book.specs.Test.{Good}
use Rattle.book.proofs.Goods.{tested_good, good_lines}
use Rattle.network.specs.Standing.{Line, standing}
use Rattle.loops.specs.Loops.{Loop, loops, loop_at}
use Rattle.loops.specs.LinesInAll.{lines_in_all, most_lines_in_all}
use Rattle.loops.specs.Row.{listed, listings, verdict, row, row_words, row_closing, row_count}
use Rattle.loops.specs.Checked.{runs, not_checked}
use Rattle.loops.specs.Circuit.{Circuit}
use Rattle.loops.proofs.Row.{within_exactly_if, over_else, rows_length}
use Rattle.loops.specs.Report.{loops_of, report_of, pieces_of}
use Rattle.survey.specs.Report.{counted}
use Rattle.survey.specs.Survey.{survey_of}
use Rattle.lists.specs.Listing.{listing_of, listings_of}
use Rattle.lists.specs.NotChecked.{unchecked_of, not_checked_of}
use Rattle.loops.proofs.LinesInAll.{lines_in_all_at_most}
use Rattle.loops.proofs.Listings.{listings_length, lines_more, listed_after}
use Rattle.loops.proofs.Places.{row_at}
use Rattle.network.proofs.Standing.{few_standing}
use Rattle.loops.proofs.Sounding.{lines_sound}
use Rattle.demands.specs.Calls.{list_done}
use Rattle.demands.specs.Tables.{loop_listing, listing_rules}
use Rattle.demands.specs.TheLoops.{in_row, counts_before, Within, Over, RowOf, LoopIs, ListedIn}
use Rattle.demands.proofs.BookRules.{first_of_lem, own_rules}
use Rattle.demands.proofs.Refusals.{survey_keeps_to_table, listing_keeps_to_table, listings_keeps_to_table}
use Rattle.demands.proofs.Refusals.{not_checked_keeps_to_table}
use Rattle.demands.proofs.TheLoops as the

-- ---- a row

-- the verdict is 1 exactly if the loop is not within
over_exactly_if : (t : ℕ) (lp : Loop) → (verdict t lp ≡ pos 1) ↔ Over t lp
over_exactly_if t lp = (λ e. go e (dec_le _ _), over_else t lp)
  where
    go : verdict t lp ≡ pos 1 → Dec (Within t lp) → Over t lp
    go e (yes h) = let z : ◌≡◌ {A = ℕ} 0 1 = cc ((within_exactly_if t lp).1 h) in absurd (omega arith)
    go e (no h) = omega arith

-- numbers that are a loop's row in its place
row_of : (t : ℕ) (report : List ℤ) (i : ℕ) (lp : Loop) → ((j : ℕ) → j < row_words → in_row j report i ≡ get_or (row t lp) j (pos 0))
    → RowOf t report i lp
unfolding row
row_of t report i lp h = record {
  closing_line = h 0 (omega arith);
  count = h 1 (omega arith);
  its_length = h 2 (omega arith);
  its_misclosure = h 3 (omega arith);
  within = rw (h 4 (omega arith)) (within_exactly_if t lp);
  over = rw (h 4 (omega arith)) (over_exactly_if t lp);
}

-- row i of a report is the row of loop i
pub report_row : (b t : ℕ) (lines rest : List ℤ) (i : ℕ) → i < length (loops_of b lines)
    → RowOf t (report_of b t lines ++ rest) i (loop_at (loops_of b lines) i)
unfolding report_of
report_row b t lines rest i h =
    row_of t (report_of b t lines ++ rest) i (loop_at (loops_of b lines) i) (λ j l.
    get_or-append (report_of b t lines) rest (pos 0) (row_words * i + j) (omega (arith, rows_length t (loops_of b lines)))
    ∙ row_at t (loops_of b lines) i h j l)

-- a list that is done
in_first_places : (list out : List ℤ) → ListedIn list out (list_done list out)
in_first_places list out = record {
  entries = refl;
  first_places = take-append_seam list (drop (length list) out);
  past_it = drop-append_seam list (drop (length list) out);
}

module _ (book : Lent) (k : Book) (passes : test_of book ≡ Good k) where
  marks_are : nat_abs book.b ≡ k.marks
  marks_are = ap nat_abs (tested_good book k passes).marks

  tolerance_is : nat_abs book.t ≡ k.tolerance
  tolerance_is = ap nat_abs (tested_good book k passes).tolerance

  -- ---- the survey

  module _ (out : List ℤ) (done : (survey_of book out).answer.refusal.number ≡ 0) where
    -- the rows and pieces answered are those of the book
    pub survey_counts : ((survey_of book out).answer.rows ≡ length (loops_of k.marks book.lines))
        × ((survey_of book out).answer.pieces ≡ pieces_of k.marks book.lines)
    unfolding counted
    survey_counts = rw ((survey_keeps_to_table book out).finished done, marks_are) (refl, refl)

    -- "lines minus marks plus pieces in all"
    pub rows_are_lines_less_marks_plus_pieces : (survey_of book out).answer.rows + k.marks
        ≡ length (standing book.lines) + (survey_of book out).answer.pieces
    rows_are_lines_less_marks_plus_pieces =
        omega (arith, survey_counts.0, survey_counts.1, the.loops_are_lines_less_marks_plus_pieces book k passes)

    -- the report stands in the first places of the output, and all places past it are as they were
    pub report_in_first_places : (survey_of book out).rows ≡ report_of k.marks k.tolerance book.lines ++ drop
        (length (report_of k.marks k.tolerance book.lines)) out
    report_in_first_places = rw ((survey_keeps_to_table book out).finished done, marks_are, tolerance_is)

    -- row i is the row of loop i: closing line, count, the sum of the lengths, the signed sum of the differences, and the exact verdict
    pub each_row_is_of_its_loop : (i : ℕ) → i < (survey_of book out).answer.rows
        → RowOf k.tolerance (survey_of book out).rows i (loop_at (loops_of k.marks book.lines) i) × LoopIs k.marks book.lines i
    each_row_is_of_its_loop i h =
        let l : i < length (loops_of k.marks book.lines) = omega (arith, survey_counts.0) in
        (rw report_in_first_places (report_row k.marks k.tolerance book.lines _ i l), the.each_loop_is_so book k passes i l)

    -- "each with a closing line that no earlier loop has"
    pub closing_line_is_new : (i j : ℕ) → j < i → i < (survey_of book out).answer.rows
        → runs (nat_abs (in_row row_closing (survey_of book out).rows i)) (loop_at (loops_of k.marks book.lines) j) ≡ false
    closing_line_is_new i j l h =
        let w = each_row_is_of_its_loop i h in
        rw (w.0.closing_line, w.1.closing_line_first) (w.1.not_in_earlier_loop j l)

  -- ---- the listing

  -- the listing of loop i, numbered i + 1, is its lines in the order in which they are run, each with its sense
  pub listing_is_the_loop : (i : ℕ) (out : List ℤ) → (listing_of book (pos (suc i)) out).answer.refusal.number ≡ 0
      → (i < length (loops_of k.marks book.lines)) × ListedIn (map listed (loop_at (loops_of k.marks book.lines) i)) out
      (listing_of book (pos (suc i)) out)
  unfolding listing_rules loop_listing
  listing_is_the_loop i out done =
      let w = listing_keeps_to_table book (pos (suc i)) out in
      let there =
      between 1 (length (loops_of (nat_abs book.b) book.lines)) (pos (suc i))
      (first_of_lem (own_rules (w.table.done_exactly_if.0 done))) in
      let at : suc i - 1 ≡ i = omega arith in (
        rw (← marks_are) (omega (arith, there.high)),
        rw (w.finished done, ← marks_are, at) (in_first_places (map listed (loop_at (loops_of (nat_abs book.b) book.lines) i)) out),
      )

  -- and begins with its closing line, positive
  pub listing_begins_with_closing_line : (i : ℕ) (h : i < length (loops_of k.marks book.lines))
      → let loop = the.each_loop_is_so book k passes i h in
      map listed (loop_at (loops_of k.marks book.lines) i) ≡ pos loop.closing_line.number ∷ map listed loop.path
  listing_begins_with_closing_line i h = ap (map listed) (the.each_loop_is_so book k passes i h).closing_line_first

  -- ---- the lines of all loops

  pub listings_in_first_places : (out : List ℤ) → (listings_of book out).answer.refusal.number ≡ 0
      → ListedIn (listings (loops_of k.marks book.lines)) out (listings_of book out)
  listings_in_first_places out done =
      rw ((listings_keeps_to_table book out).finished done, ← marks_are)
      (in_first_places (listings (loops_of (nat_abs book.b) book.lines)) out)

  -- "at most 65,792 entries in all": with so many places the lines of all loops are never refused with 10
  pub listings_are_few : length (listings (loops_of k.marks book.lines)) ≤ most_lines_in_all
  unfolding loops_of
  listings_are_few =
      let good = good_lines k book (tested_good book k passes) in
      omega (
        arith,
        listings_length (loops k.marks (standing book.lines)),
        lines_in_all_at_most k.marks (standing book.lines) (lines_sound k book.lines good)
            (omega (arith, few_standing book.lines, good.good.whole, good.good.few)),
      )

  -- "each loop's count is the second number of its row": the lines of loop i stand after as many places as the rows before it count
  module _ (rows out : List ℤ) (surveyed : (survey_of book rows).answer.refusal.number ≡ 0)
      (done : (listings_of book out).answer.refusal.number ≡ 0) where
    abbrev ls : List Loop
    ls = loops_of k.marks book.lines

    abbrev report : List ℤ
    report = (survey_of book rows).rows

    count_is : (i : ℕ) → i < length (loops_of k.marks book.lines) → nat_abs (in_row row_count report i) ≡ length (loop_at ls i)
    count_is i h = ap nat_abs (each_row_is_of_its_loop rows surveyed i (omega (arith, (survey_counts rows surveyed).0))).0.count

    counts_are : (i : ℕ) → i ≤ length (loops_of k.marks book.lines) → counts_before report i ≡ lines_in_all (take i ls)
    unfolding counts_before lines_in_all
    counts_are zero h = refl
    counts_are (suc i) h = omega (arith, counts_are i (omega arith), count_is i (omega arith), lines_more ls i (omega arith))

    pub listings_go_by_rows : (i : ℕ) → i < (survey_of book rows).answer.rows
        → take (nat_abs (in_row row_count report i)) (drop (counts_before report i) (listings_of book out).out)
        ≡ map listed (loop_at (loops_of k.marks book.lines) i)
    listings_go_by_rows i h =
        let l : i < length (loops_of k.marks book.lines) = omega (arith, (survey_counts rows surveyed).0) in
        rw (count_is i l, counts_are i (omega arith), (listings_keeps_to_table book out).finished done, marks_are)
        (listed_after ls i l (drop (length (listings ls)) out))

  -- ---- the not-checked list

  -- the list stands in the first places of the output
  pub not_checked_in_first_places : (out : List ℤ) → (not_checked_of book out).answer.refusal.number ≡ 0
      → ListedIn (map pos (not_checked (loops_of k.marks book.lines) (standing book.lines))) out (not_checked_of book out)
  unfolding unchecked_of
  not_checked_in_first_places out done =
      rw ((not_checked_keeps_to_table book out).finished done, ← marks_are)
      (in_first_places (map pos (not_checked (loops_of (nat_abs book.b) book.lines) (standing book.lines))) out)

  -- a number is in them exactly if it is that of a standing line through which no circuit passes
  pub listed_exactly_if_no_circuit : (out : List ℤ) → (not_checked_of book out).answer.refusal.number ≡ 0 → (n : ℕ)
      → Memᴰ (pos n) (take (not_checked_of book out).answer.entries (not_checked_of book out).out)
      ↔ ((l : Line) × Memᴰ l (standing book.lines) × (n ≡ l.number) × (Circuit (standing book.lines) n → ⊥))
  listed_exactly_if_no_circuit out done n =
      let w = not_checked_in_first_places out done in
      let means = the.not_checked_exactly_if_no_circuit book k passes n in
      rw (w.entries, w.first_places) (
        λ i. let m = Memᴰ.of_map pos (not_checked (loops_of k.marks book.lines) (standing book.lines)) i in means.0
            (subst (λ (x : ℕ). Memᴰ x (not_checked (loops_of k.marks book.lines) (standing book.lines))) (ap nat_abs m.2)
            m.1),
        λ p. Memᴰ.map pos (means.1 p),
      )
