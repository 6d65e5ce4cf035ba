-- When a call is done, in plain words. Assumes nothing.
use mathlib.Core.Path.{◌≡◌, subst₂}
use mathlib.Core.Logic.{◌⊎◌, ◌↔◌, inl, inr}
use mathlib.Core.Bool.{false}
use mathlib.Core.List.{List, []}
use Prim.Native.Nat.{ℕ, ◌*◌, ◌≤◌}
use native.Mathlib.Decide.{ℕ_discrete}
use native.Mathlib.Omega.{arith}
use lib.Dec.{eqb, ltb}
use lib.ListN.{length, take, drop}
use lib.Seq.{take_at}
use lib.IntN.{ℤ, pos, nat_abs}
use borrow.Author.Tests.{not-false, eqb-true, eq-eqb, ltb-false, le-ltb}
use Rattle.laws.proofs.Tests.{or_left, or_right}
use Rattle.laws.specs.Range.{Between}
use Rattle.laws.proofs.Size.{between, size_within}
use Rattle.laws.proofs.Inside.{between_inside, size_inside}
use Rattle.book.specs.Lent.{Lent, lent}
use Rattle.book.specs.Limits.{least_version, most_version, most_difference}
use Rattle.book.specs.Version.{version_out}
use Rattle.book.specs.Held.{held_words, held_count}
use Rattle.book.specs.Line.{line_words, line_count, difference_out}
use Rattle.book.specs.Test.{torn, book_out, counts, counts_of, test_of}
use Rattle.book.specs.Good.{GoodBook}
use Rattle.book.specs.declared.Book.{Book}
use Rattle.book.specs.Test.{Good}
use Rattle.book.proofs.Goods.{tested_good}
use Rattle.book.proofs.Passing.{good_passes}
use Rattle.file.specs.Read.{stated_length, stated_version, stated_t, stated_b, stated_h, stated_n}
use Rattle.file.specs.Read.{stated_counts, file_length, held_of, lines_of}
use Rattle.file.specs.Read.{book_in, read_of}
use Rattle.file.proofs.Reading.{held_entries, line_entries}
use Rattle.loops.specs.Row.{listings}
use Rattle.loops.specs.Report.{loops_of}
use Rattle.survey.specs.Survey.{survey_of}
use Rattle.lists.specs.Listing.{listing_of, listings_of}
use Rattle.lists.specs.NotChecked.{unchecked_of, not_checked_of}
use Rattle.survey.specs.Correction.{rerun_of, withdraw_of}
use Rattle.demands.specs.Tables.{book_fault, survey_rules, loop_listing, listing_rules, listings_rules, not_checked_rules, correction_rules}
use Rattle.demands.specs.Tables.{rerun_rules, withdraw_rules, file_rules}
use Rattle.demands.specs.Calls.{afresh, Readable}
use Rattle.demands.specs.Corrections.{Acceptable}
use Rattle.demands.proofs.Meanings.{line_exactly_if_stands, report_exactly_if_rows}
use Rattle.demands.proofs.Refusals.{no_other_fault, survey_keeps_to_table, listing_keeps_to_table, listings_keeps_to_table}
use Rattle.demands.proofs.Refusals.{not_checked_keeps_to_table, reader_keeps_to_table, rerun_keeps_to_table}
use Rattle.demands.proofs.Refusals.{withdrawal_keeps_to_table}
use Rattle.demands.proofs.BookRules.{None, none_in, none_and, first_of_lem, rest_of, passes_if, passes_only_if}
use Rattle.demands.proofs.BookRules.{own_rules, none_beside, beside_none}

module _ (book : Lent) where
  -- a survey is done exactly if the book passes the test and its report has room
  pub survey_done_exactly_if : (out : List ℤ)
      → ((survey_of book out).answer.refusal.number ≡ 0) ↔ ((k : Book) × (test_of book ≡ Good k) × (length (afresh book) ≤ length out))
  unfolding survey_rules
  survey_done_exactly_if out =
      let w = (survey_keeps_to_table book out).table.done_exactly_if in (
        λ z. let h = w.0 z in (
          _,
          passes_if book h,
          ltb-false (length out) (length (afresh book))
              (first_of_lem (own_rules h)),
        ),
        λ p. w.1 (passes_only_if book p.0 p.1 (none_and (le-ltb (length out) (length (afresh book)) p.2) none_in)),
      )

  -- a listing is done exactly if the book passes the test, the loop's number is one of the book's, and the listing has room
  pub listing_done_exactly_if : (loop : ℤ) (out : List ℤ) → ((listing_of book loop out).answer.refusal.number ≡ 0)
      ↔ ((k : Book) × (test_of book ≡ Good k) × Between 1 (length (loops_of (nat_abs book.b) book.lines)) loop
      × (length (loop_listing book loop) ≤ length out))
  unfolding listing_rules
  listing_done_exactly_if loop out =
      let w = (listing_keeps_to_table book loop out).table.done_exactly_if in (
        λ z.
            let h = w.0 z in
            let own = own_rules h in (
              _,
              passes_if book h,
              between 1 (length (loops_of (nat_abs book.b) book.lines)) loop (first_of_lem own),
              ltb-false
                  (length out) (length (loop_listing book loop)) (first_of_lem (rest_of own)),
            ),
        λ p. w.1 (passes_only_if book p.0 p.1 (none_and (between_inside p.2)
            (none_and (le-ltb (length out) (length (loop_listing book loop)) p.3) none_in))),
      )

  -- the lines of all loops are listed exactly if the book passes the test and they have room
  pub listings_done_exactly_if : (out : List ℤ) → ((listings_of book out).answer.refusal.number ≡ 0)
      ↔ ((k : Book) × (test_of book ≡ Good k) × (length (listings (loops_of (nat_abs book.b) book.lines)) ≤ length out))
  unfolding listings_rules
  listings_done_exactly_if out =
      let w = (listings_keeps_to_table book out).table.done_exactly_if in
      let all = length (listings (loops_of (nat_abs book.b) book.lines)) in (
        λ z. let h = w.0 z in (_, passes_if book h, ltb-false (length out) all (first_of_lem (own_rules h))),
        λ p. w.1 (passes_only_if book p.0 p.1 (none_and (le-ltb (length out) all p.2) none_in)),
      )

  -- a not-checked list is done exactly if the book passes the test and the list has room
  pub not_checked_done_exactly_if : (out : List ℤ)
      → ((not_checked_of book out).answer.refusal.number ≡ 0)
      ↔ ((k : Book) × (test_of book ≡ Good k) × (length (unchecked_of (nat_abs book.b) book.lines) ≤ length out))
  unfolding not_checked_rules
  not_checked_done_exactly_if out =
      let w = (not_checked_keeps_to_table book out).table.done_exactly_if in (
        λ z. let h = w.0 z in (
          _,
          passes_if book h,
          ltb-false (length out) (length (unchecked_of (nat_abs book.b) book.lines))
              (first_of_lem (own_rules h)),
        ),
        λ p. w.1 (passes_only_if book p.0 p.1 (none_and
            (le-ltb (length out) (length (unchecked_of (nat_abs book.b) book.lines)) p.2) none_in)),
      )

  -- what 8 and 9 leave
  correction_only_if : (report : List ℤ) (number : ℤ) → test_of book ≡ Good (counts_of book) → None (correction_rules book report number)
      → Acceptable book report number
  correction_only_if report number e h =
      let l = (line_exactly_if_stands book.lines number).0 (first_of_lem h) in
      record {
        counts = _;
        passes = e;
        line = l.0;
        stands = l.1;
        its_report = (report_exactly_if_rows report (afresh book)).0
            (first_of_lem (rest_of h));
      }

  correction_if : (report : List ℤ) (number : ℤ) → Acceptable book report number → None (correction_rules book report number)
  correction_if report number a =
      none_and ((line_exactly_if_stands book.lines number).1 (a.line, a.stands))
      (none_and ((report_exactly_if_rows report (afresh book)).1 a.its_report) none_in)

  -- a withdrawal is done exactly if it is acceptable
  pub withdrawal_done_exactly_if : (report : List ℤ) (number : ℤ)
      → ((withdraw_of book report number).answer.refusal.number ≡ 0) ↔ Acceptable book report number
  unfolding withdraw_rules
  withdrawal_done_exactly_if report number =
      let w = (withdrawal_keeps_to_table book report number).table.done_exactly_if in (
        λ z. correction_only_if report number (passes_if book (w.0 z)) (own_rules (w.0 z)),
        λ a. w.1 (passes_only_if book a.counts a.passes (correction_if report number a)),
      )

  -- a re-run is done exactly if it is acceptable and the new difference is inside its limit
  pub rerun_done_exactly_if : (report : List ℤ) (number difference : ℤ)
      → ((rerun_of book report number difference).answer.refusal.number ≡ 0)
      ↔ ((nat_abs difference ≤ most_difference) × Acceptable book report number)
  unfolding rerun_rules difference_out
  rerun_done_exactly_if report number difference =
      let w = (rerun_keeps_to_table book report number difference).table.done_exactly_if in (
        λ z.
            let h = w.0 z in
            let p = none_beside (difference_out difference) book h in (
              size_within most_difference difference p.0,
              correction_only_if report number (passes_if book p.1) (own_rules h),
            ),
        λ p.
            let a = p.1 in
            let h = passes_only_if book a.counts a.passes (correction_if report number a) in
            w.1 (beside_none (difference_out difference) book (size_inside most_difference difference p.0) h),
      )

-- ---- the file

-- version 1 or 2
one_or_two : (v : ℕ) → version_out (pos v) ≡ false → (v ≡ 1) ⊎ (v ≡ 2)
unfolding version_out
one_or_two v e = let w = between least_version most_version (pos v) e in go (ℕ_discrete v 1) w.low w.high
  where
    go : Dec (v ≡ 1) → 1 ≤ v → v ≤ 2 → (v ≡ 1) ⊎ (v ≡ 2)
    go (yes e) low high = inl e
    go (no d) low high = inr (omega arith)

module _ (file : List ℕ) (held lines : List ℤ) where
  abbrev v : ℕ
  v = stated_version file

  abbrev b : ℤ
  b = pos (stated_b file)

  abbrev t : ℤ
  t = pos (stated_t file)

  abbrev h : ℕ
  h = stated_h file

  abbrev n : ℕ
  n = stated_n file

  abbrev k : Book
  k = stated_counts file

  abbrev book : Lent
  book = book_in file k

  abbrev GoodWith : ℕ → ℕ → Type 0
  GoodWith x y = GoodBook (counts (pos v) b t x y) book

  -- a file is read exactly if it is readable
  pub read_exactly_if_readable : ((read_of file held lines).answer.refusal.number ≡ 0) ↔ Readable file held lines
  unfolding file_rules book_fault
  read_exactly_if_readable = (λ z. to (w.0 z), λ r. w.1 (back r))
    where
      w : ((read_of file held lines).answer.refusal.number ≡ 0) ↔ None (file_rules file held lines)
      w = (reader_keeps_to_table file held lines).table.done_exactly_if

      to : None (file_rules file held lines) → Readable file held lines
      to r₁ =
          let r₂ = rest_of r₁ in
          let r₃ = rest_of r₂ in
          let r₄ = rest_of r₃ in
          let r₅ = rest_of r₄ in
          let r₆ = rest_of r₅ in
          let r₇ = rest_of r₆ in
          let r₈ = rest_of r₇ in
          let few_held = ltb (length held) (h * held_words) in
          let few_lines = ltb (length lines) (n * line_words) in
          let passes =
          passes_if book {more = []} (none_and (first_of_lem r₃) (none_and (no_other_fault file held lines (first_of_lem r₄))
          (none_and (first_of_lem r₆) (none_and (first_of_lem r₇) none_in)))) in
          record {
            long_enough = ltb-false (length file) 13 (first_of_lem r₁);
            its_length = eqb-true (stated_length file) (length file) (not-false (eqb (stated_length file) (length file)) (first_of_lem r₂));
            known_version = one_or_two v (first_of_lem r₃);
            whole = eqb-true (length file) (file_length v h n) (not-false (eqb (length file) (file_length v h n)) (first_of_lem r₅));
            good = subst₂ GoodWith (held_entries file held lines k) (line_entries file held lines k) (tested_good book _ passes);
            room_for_held = ltb-false (length held) (h * held_words) (or_left few_held few_lines (first_of_lem r₈));
            room_for_lines = ltb-false (length lines) (n * line_words) (or_right few_held few_lines (first_of_lem r₈));
          }

      back : Readable file held lines → None (file_rules file held lines)
      back r =
          let rules = passes_only_if book k (good_passes k book r.good) {more = []} none_in in
          let fault =
          or_left (book_out (pos v) b t (held_count (held_of file k)) (line_count (lines_of file k))) (torn held_words (held_of file k))
          (or_left _ (torn line_words (lines_of file k)) (first_of_lem (rest_of rules))) in
          none_and (le-ltb (length file) 13 r.long_enough)
          (none_and (rw (eq-eqb (stated_length file) (length file) r.its_length))
          (none_and (first_of_lem rules)
          (none_and (rw (held_entries file held lines k, line_entries file held lines k) at fault)
          (none_and (rw (eq-eqb (length file) (file_length v h n) r.whole))
          (none_and (first_of_lem (rest_of (rest_of rules)))
          (none_and (first_of_lem (rest_of (rest_of (rest_of rules))))
          (none_and (rw (
            le-ltb (length held) (h * held_words) r.room_for_held,
            le-ltb (length lines) (n * line_words)
                r.room_for_lines,
          )) none_in)))))))

  -- and the book that it leaves in the buffers passes the test of every call
  pub read_book_passes : let o = read_of file held lines in o.answer.refusal.number ≡ 0
      → test_of (lent (pos o.answer.version) (pos o.answer.b) (pos o.answer.t) (take (o.answer.h * held_words) o.held)
      (take (o.answer.n * line_words) o.lines))
      ≡ Good (record {
        version = o.answer.version;
        marks = o.answer.b;
        tolerance = o.answer.t;
        held = o.answer.h;
        lines = o.answer.n;
      })
  read_book_passes z =
      let good = (read_exactly_if_readable.0 z).good in
      rw (
        (reader_keeps_to_table file held lines).finished z,
        take_at (held_of file k) (drop (h * held_words) held) (h * held_words) good.held_good.whole,
        take_at (lines_of file k) (drop (n * line_words) lines) (n * line_words) good.lines_good.whole,
      ) (good_passes k book good)
