-- Request 05, "Save what was corrected": the writer, sentence by sentence. Assumes nothing.
use mathlib.Core.Path.{◌≡◌, refl, sym, ◌∙◌, ap, ap₂, subst}
use mathlib.Core.Logic.{◌⊎◌, ◌↔◌, inl, inr}
use mathlib.Core.Bool.{true, false, cond}
use mathlib.Core.List.{List, ◌++◌}
use Prim.Native.Nat.{ℕ, ◌*◌, ◌≤◌, ◌<◌}
use native.Mathlib.Omega.{arith}
use lib.ListN.{length, drop}
use lib.Seq.{take_at}
use lib.IntN.{ℤ, pos}
use borrow.Author.Tests.{ltb-false, le-ltb, eq-eqb}
use Rattle.laws.specs.Tests.{eq_z}
use Rattle.laws.proofs.FirstBad.{none_any}
use Rattle.laws.proofs.Scans.{any_found}
use Rattle.book.specs.Lent.{Lent, lent}
use Rattle.book.specs.Held.{held_words}
use Rattle.book.specs.Line.{line_words, standing_at}
use Rattle.book.specs.Version.{has_classes}
use Rattle.book.specs.Test.{refusal, no_refusal, counts_of, test_of}
use Rattle.book.specs.Good.{Lines, GoodBook, Versioned, single, classed}
use Rattle.book.specs.declared.Book.{Book}
use Rattle.book.specs.Test.{Good}
use Rattle.book.proofs.IfGood.{if_good_lem}
use Rattle.book.proofs.Goods.{tested_good, tested_counts}
use Rattle.book.proofs.Passing.{good_passes, counts_pass}
use Rattle.book.proofs.Versions.{version_passes}
use Rattle.file.specs.Wire.{Bytes}
use Rattle.file.specs.Read.{Outcome, stated_length, stated_version, stated_h, stated_n, stated_counts}
use Rattle.file.specs.Read.{file_length, length_of, head_of, held_of}
use Rattle.file.specs.Read.{lines_of, book_in, read_of}
use Rattle.file.specs.Read.{States}
use Rattle.file.proofs.Heads.{head_says}
use Rattle.survey.specs.Survey.{survey_of}
use Rattle.writer.specs.Write as writer
use Rattle.writer.specs.Write.{Writing, writing, file_of, any_withdrawn, cannot_say, write_good, write_of}
use Rattle.writer.proofs.Answers.{not_said, no_room, all_written}
use Rattle.writer.proofs.FileRead.{all_stand, file_length_lem, head_back, book_read_back, read_back}
use Rattle.writer.proofs.WriteBack.{file_written, read_is_sayable}
use Rattle.writer.proofs.AreBytes.{file_bytes}
use Rattle.demands.specs.Tables.{saving_rules, write_rules}
use Rattle.demands.specs.Calls.{write_done, WriterKeepsToTable, Readable}
use Rattle.demands.specs.Corrections.{Step, Accepted, KeptTrue}
use Rattle.demands.specs.Saving.{saved_in, book_now, CanSay, Writable, RoomFor, SameBook}
use Rattle.demands.proofs.Rules.{by_rules, keeps_to_table}
use Rattle.demands.proofs.BookRules.{own_rules, none_in, none_and, first_of_lem, rest_of, passes_if, passes_only_if, by_the_test}
use Rattle.demands.proofs.Refusals.{reader_keeps_to_table}
use Rattle.demands.proofs.Done.{read_exactly_if_readable}
use Rattle.demands.proofs.Corrections.{kept_report_stays_true}

-- ---- the call

module _ (book : Lent) (file : List ℕ) where
  -- it keeps to its table: 3, 4, 6, 7, 16, 10, the first that applies
  pub writer_keeps_to_table : WriterKeepsToTable book file (write_of book file)
  unfolding write_of write_good write_rules by_rules
  writer_keeps_to_table =
      keeps_to_table (λ r. refl) refl refl
      (by_the_test book (λ k. write_good k book.held book.lines file) (saving_rules book file)
      (λ r. writing (writer.refused_with r) file) (write_done book file) refl)

  -- a refused writer: no bytes, and the file as it was
  pub refused_writer_changes_nothing : let w = write_of book file in (w.answer.refusal.number ≡ 0 → ⊥)
      → (w.answer.bytes ≡ 0) × (w.file ≡ file)
  refused_writer_changes_nothing h = let e = writer_keeps_to_table.refused h in
      (ap (λ (w : Writing). w.answer.bytes) e, ap (λ (w : Writing). w.file) e)

-- ---- what a file can say

-- by what the version asks
module _ (lines : List ℤ) (b n : ℕ) (g : Lines lines b n) where
  can_say : {version t : ℕ} → Versioned lines n version t → cond (has_classes (pos version)) false (any_withdrawn lines n) ≡ false
      → (version ≡ 2) ⊎ ((i : ℕ) → i < n → standing_at lines i ≡ pos 1)
  unfolding eq_z
  can_say (single low high none) e = inr (λ i l. all_stand lines n i e l (g.each i l).standing)
  can_say (classed each) e = inl refl

  all_said : {version t : ℕ} → Versioned lines n version t → (version ≡ 2) ⊎ ((i : ℕ) → i < n → standing_at lines i ≡ pos 1)
      → cond (has_classes (pos version)) false (any_withdrawn lines n) ≡ false
  unfolding eq_z any_withdrawn
  all_said (single low high none) (inl two) = absurd (omega arith)
  all_said (single low high none) (inr stand) =
      none_any (λ i. eq_z (standing_at lines i) (pos 0)) n (λ i l. ap (λ (z : ℤ). eq_z z (pos 0)) (stand i l))
  all_said (classed each) c = refl

one_withdrawn : (k : Book) (lines : List ℤ) (i : ℕ) → k.version ≡ 1 → i < k.lines → standing_at lines i ≡ pos 0
    → cannot_say k lines ≡ true
unfolding cannot_say any_withdrawn eq_z
one_withdrawn k lines i one l gone =
    rw one (any_found (λ j. eq_z (standing_at lines j) (pos 0)) k.lines i l (ap (λ (z : ℤ). eq_z z (pos 0)) gone))

module _ (book : Lent) (k : Book) (passes : test_of book ≡ Good k) where
  good : GoodBook k book
  good = tested_good book k passes

  -- 16 does not apply exactly if the book is "of version 2, or of version 1 without a withdrawn line"
  pub said_exactly_if : (cannot_say k book.lines ≡ false) ↔ CanSay k book.lines
  unfolding cannot_say good
  said_exactly_if = (
    can_say book.lines k.marks k.lines good.lines_good good.by_version,
    all_said book.lines k.marks k.lines good.lines_good good.by_version,
  )

  -- "a version 1 book with one is not written. Refusals: 16 for that", whatever room there is
  pub withdrawn_in_version_one_is_sixteen : k.version ≡ 1 → (i : ℕ) → i < k.lines → standing_at book.lines i ≡ pos 0
      → (file : List ℕ) → write_of book file ≡ writing (writer.refused_with (refusal 16 0)) file
  unfolding write_of
  withdrawn_in_version_one_is_sixteen one i l gone file =
      if_good_lem (test_of book) _ _ k passes
      ∙ not_said k book.held book.lines file (one_withdrawn k book.lines i one l gone)

-- "the writer does not refuse what it could write": it is done exactly if the book is writable and its file has room
pub written_exactly_if : (book : Lent) (file : List ℕ)
    → ((write_of book file).answer.refusal.number ≡ 0) ↔ ((k : Book) × Writable book k × (length_of k ≤ length file))
unfolding write_rules
written_exactly_if book file =
    let w = (writer_keeps_to_table book file).table.done_exactly_if in
    let k = counts_of book in (
      λ z.
          let h = w.0 z in
          let own = own_rules h in
          let passes = passes_if book h in (
            k,
            record { passes = passes; said = (said_exactly_if book k passes).0 (first_of_lem own) },
            ltb-false (length file) (length_of k) (first_of_lem (rest_of own)),
          ),
      λ p.
          let same = tested_counts book p.0 p.1.passes in
          let v = subst (λ (x : Book). Writable book x × (length_of x ≤ length file)) same (p.1, p.2) in
          let passes = v.0.passes in
          w.1 (passes_only_if book k passes (none_and ((said_exactly_if book k passes).1 v.0.said)
          (none_and (le-ltb (length file) (length_of k) v.1) none_in))),
    )

-- ---- "Reading what was written gives the same book"

module _ (book : Lent) (k : Book) (w : Writable book k) where
  its_good : GoodBook k book
  its_good = tested_good book k w.passes

  its_said : cannot_say k book.lines ≡ false
  its_said = (said_exactly_if book k w.passes).1 w.said

  -- what the writer does with it
  pub writable_is_written : (file : List ℕ) → length_of k ≤ length file
      → write_of book file ≡ writing (writer.done k) (file_of k book.held book.lines ++ drop (length_of k) file)
  unfolding write_of
  writable_is_written file room =
      if_good_lem (test_of book) _ _ k w.passes ∙ all_written k book.held book.lines file its_said room

  -- 10 where there is no room for all of it, and then no byte is written
  pub short_file_is_ten : (file : List ℕ) → length file < length_of k
      → write_of book file ≡ writing (writer.refused_with (refusal 10 0)) file
  unfolding write_of
  short_file_is_ten file short = if_good_lem (test_of book) _ _ k w.passes ∙ no_room k book.held book.lines file its_said short

  -- the file that it leaves, whatever stood behind it
  pub saved_is : (file : List ℕ) → length_of k ≤ length file → saved_in (write_of book file) ≡ file_of k book.held book.lines
  saved_is file room =
      ap saved_in (writable_is_written file room)
      ∙ take_at (file_of k book.held book.lines) (drop (length_of k) file) (length_of k) (file_length_lem k book.held book.lines)

  -- which are bytes, each below 256
  pub saved_are_bytes : (file : List ℕ) → length_of k ≤ length file → Bytes (saved_in (write_of book file))
  saved_are_bytes file room = subst Bytes (sym (saved_is file room)) (file_bytes k book.held book.lines)

  -- of every book that the writer takes, the reader takes the bytes, and answers with the same book
  pub reading_what_was_written : (file : List ℕ) → length_of k ≤ length file → (held lines : List ℤ) → RoomFor k held lines
      → SameBook book held lines (read_of (saved_in (write_of book file)) held lines)
  unfolding its_good
  reading_what_was_written file room held lines r =
      let g = its_good in
      let read = ap (λ (s : List ℕ). read_of s held lines) (saved_is file room)
      ∙ read_back k book g its_said held lines r.for_held r.for_lines in
      subst (SameBook book held lines) (sym read) (record {
        done = refl;
        version = sym g.version;
        marks = sym g.marks;
        tolerance = sym g.tolerance;
        held_count = sym g.held_good.whole;
        line_count = sym g.lines_good.whole;
        held_are = ap (λ (a : ℕ). book.held ++ drop a held) (sym g.held_good.whole);
        lines_are = ap (λ (a : ℕ). book.lines ++ drop a lines) (sym g.lines_good.whole);
      })

-- so that the next call is lent the same book
pub same_book_now : (book : Lent) (held lines : List ℤ) (o : Outcome) → SameBook book held lines o → book_now o ≡ book
same_book_now book held lines o s =
    rw (
      s.version,
      s.marks,
      s.tolerance,
      s.held_are,
      s.lines_are,
      s.held_count,
      s.line_count,
      take_at book.held (drop (length book.held) held) (length book.held) refl,
      take_at book.lines (drop (length book.lines) lines) (length book.lines) refl,
    )

-- ---- "and writing what was read gives the same bytes"

module _ (file : List ℕ) (held lines : List ℤ) (z : (read_of file held lines).answer.refusal.number ≡ 0) where
  readable : Readable file held lines
  readable = (read_exactly_if_readable file held lines).0 z

  abbrev counts : Book
  counts = stated_counts file

  -- a file that is read states its counts
  states : head_of file ≡ States counts
  unfolding head_of readable
  states =
      let r = readable in
      rw (
        le-ltb (length file) 13 r.long_enough,
        eq-eqb (stated_length file) (length file) r.its_length,
        version_passes r.good.by_version,
        counts_pass counts (book_in file counts) r.good,
        eq-eqb (length file) (file_length (stated_version file) (stated_h file) (stated_n file)) r.whole,
      )

  -- the book that it leaves in the buffers
  pub read_book_is : book_now (read_of file held lines) ≡ book_in file counts
  unfolding readable
  read_book_is =
      let g = readable.good in
      rw (
        (reader_keeps_to_table file held lines).finished z,
        take_at (held_of file counts) (drop (counts.held * held_words) held) (counts.held * held_words) g.held_good.whole,
        take_at (lines_of file counts) (drop (counts.lines * line_words) lines) (counts.lines * line_words) g.lines_good.whole,
      )

  -- is writable
  pub read_is_writable : Writable (book_in file counts) counts
  unfolding readable
  read_is_writable =
      let passes = good_passes counts (book_in file counts) readable.good in
      record { passes = passes; said = (said_exactly_if (book_in file counts) counts passes).0 (read_is_sayable file counts) }

  -- and has this file
  pub its_file_is : Bytes file → file_of counts (held_of file counts) (lines_of file counts) ≡ file
  its_file_is b = file_written file counts b states

  -- of every byte sequence that the reader takes, the writer gives the same bytes
  pub writing_what_was_read : Bytes file → (out : List ℕ) → length file ≤ length out
      → write_of (book_now (read_of file held lines)) out
      ≡ writing (record { refusal = no_refusal; bytes = length file }) (file ++ drop (length file) out)
  unfolding readable
  writing_what_was_read b out room =
      let size : length file ≡ length_of counts = readable.whole in
      rw (read_book_is) (writable_is_written (book_in file counts) counts read_is_writable out (omega (arith, size))
      ∙ rw (its_file_is b, ← size))

-- ---- "reader and writer are inverse to each other between good files and writable books"

-- one book to a file
pub one_book_to_a_file : (a c : Lent) (j k : Book) → Writable a j → Writable c k
    → file_of j a.held a.lines ≡ file_of k c.held c.lines → a ≡ c
one_book_to_a_file a c j k v w e =
    let heads : States j ≡ States k =
    sym (head_back j a (its_good a j v) (its_said a j v)) ∙ ap head_of e ∙ head_back k c (its_good c k w) (its_said c k w) in
    let counts_same : j ≡ k = cc in
    sym (book_read_back j a (its_good a j v) (its_said a j v))
    ∙ ap₂ book_in e counts_same
    ∙ book_read_back k c (its_good c k w) (its_said c k w)

-- bytes are read, where there is room for the book, exactly if they are the file of a writable book
pub read_exactly_if_a_books_file : (file : List ℕ) → Bytes file → (held lines : List ℤ) → RoomFor (stated_counts file) held lines
    → ((read_of file held lines).answer.refusal.number ≡ 0)
    ↔ ((book : Lent) × (k : Book) × Writable book k × (file ≡ file_of k book.held book.lines))
read_exactly_if_a_books_file file b held lines r = (
  λ z. (_, stated_counts file, read_is_writable file held lines z, sym (its_file_is file held lines z b)),
  λ p. back p.0 p.1 p.2 p.3,
)
  where
    back : (book : Lent) (k : Book) → Writable book k → file ≡ file_of k book.held book.lines
        → (read_of file held lines).answer.refusal.number ≡ 0
    back book k w e =
        let states : head_of file ≡ States k = ap head_of e ∙ head_back k book (its_good book k w) (its_said book k w) in
        let room = subst (λ (x : Book). RoomFor x held lines) (sym (head_says file k states).counts_are) r in
        rw e (ap (λ (o : Outcome). o.answer.refusal.number)
        (read_back k book (its_good book k w) (its_said book k w) held lines room.for_held room.for_lines))

-- ---- "After any accepted corrections a version 2 book is still written, and its report read back is the kept one."

module _ (first : Lent) (out : List ℤ) (done : (survey_of first out).answer.refusal.number ≡ 0) (k : Book) (passes : test_of first ≡ Good k)
    (two : k.version ≡ 2) {steps : List Step} {book : Lent} {report : List ℤ}
    (chain : Accepted first (survey_of first out).rows steps book report) where
  pub corrected_book_is_writable : Writable book k
  corrected_book_is_writable = record { passes = (kept_report_stays_true first out done chain).still_good ∙ passes; said = inl two }

  pub saved_report_is_the_kept_one : (file : List ℕ) → length_of k ≤ length file → (held lines : List ℤ) → RoomFor k held lines
      → let again = book_now (read_of (saved_in (write_of book file)) held lines) in (again ≡ book) × KeptTrue first out again report
  saved_report_is_the_kept_one file room held lines r =
      let again = book_now (read_of (saved_in (write_of book file)) held lines) in
      let same : again ≡ book =
      same_book_now book held lines _ (reading_what_was_written book k corrected_book_is_writable file room held lines r) in
      (same, subst (λ (x : Lent). KeptTrue first out x report) (sym same) (kept_report_stays_true first out done chain))
