-- What each call owes: a refusal by its table, all counts 0 and every lent buffer as it was; or, done, the whole answer, with places past
-- it as they were.
-- Assumes nothing.
use Rattle.std.specs.Prelude.{◌≡◌, ◌⊎◌, List, ◌++◌, ℕ, ◌*◌, ◌≤◌, length, drop, ℤ, pos, nat_abs}
use Rattle.book.specs.Lent.{Lent, with_lines}
use Rattle.book.specs.Limits.{most_difference}
use Rattle.book.specs.Held.{held_words}
use Rattle.book.specs.Line.{line_words}
use Rattle.book.specs.Good.{GoodBook}
use Rattle.book.specs.Test.{refusal, counts_of}
use Rattle.book.specs.Refusals.{Told}
use Rattle.file.specs.Read as read
use Rattle.file.specs.Read.{Outcome, answered, done, stated_length, stated_version, file_length, stated_h, stated_n, stated_counts, held_of}
use Rattle.file.specs.Read.{lines_of, book_in, length_of}
use Rattle.writer.specs.Write as writer
use Rattle.writer.specs.Write.{Writing, writing, file_of, write_of}
use Rattle.loops.specs.Row.{listings}
use Rattle.loops.specs.Report.{loops_of}
use Rattle.survey.specs.Report as survey
use Rattle.survey.specs.Report.{counted}
use Rattle.survey.specs.Survey.{Surveyed, surveyed, survey_of}
use Rattle.lists.specs.Listing as lists
use Rattle.lists.specs.Listing.{Listing, listing, listing_of, listings_of, entered}
use Rattle.lists.specs.NotChecked.{unchecked_of, not_checked_of}
use Rattle.junctions.specs.Call as junctions
use Rattle.junctions.specs.Call.{Lists, Drawing, drawing, drawn, all_in_first_places, sketch_in, sketch_call}
use Rattle.survey.specs.Correction.{Corrected, corrected, updated, rerun_lines, withdraw_lines, rerun_of, withdraw_of}
use Rattle.rates.specs.Rates as rates
use Rattle.rates.specs.Rates.{rate_answer}
use Rattle.adjust.specs.Answers as adjust
use Rattle.adjust.specs.Call.{adjusted, adjust_of}
use Rattle.demands.specs.Rules.{Rule, KeepsToTable}
pub use Rattle.demands.specs.Tables.{afresh}
use Rattle.demands.specs.Tables.{survey_rules, loop_listing, listing_rules, listings_rules, not_checked_rules, rerun_rules, withdraw_rules}
use Rattle.demands.specs.Tables.{sketch_lists, sketch_rules, file_rules, write_rules}

-- the survey: rows and pieces of the book, and its report in the first places of the output
abbrev pub survey_done : Lent → List ℤ → Surveyed
survey_done book out = surveyed (counted (nat_abs book.b) book.lines) (afresh book ++ drop (length (afresh book)) out)

abbrev pub SurveyKeepsToTable : Lent → List ℤ → Surveyed → Type 0
SurveyKeepsToTable book out given =
    KeepsToTable (λ (s : Surveyed). s.answer.refusal) (survey_rules book out)
    (λ r. surveyed (survey.refused_with r) out) (survey_done book out) given

-- a list and its count of entries, in the first places of the output
abbrev pub list_done : List ℤ → List ℤ → Listing
list_done list out = listing (entered (length list)) (list ++ drop (length list) out)

abbrev pub ListKeepsToTable : List Rule → List ℤ → List ℤ → Listing → Type 0
ListKeepsToTable rules list out given =
    KeepsToTable (λ (l : Listing). l.answer.refusal) rules (λ r. listing (lists.refused_with r) out) (list_done list out) given

-- the listing: lines and sense of the loop of that number
abbrev pub ListingKeepsToTable : Lent → ℤ → List ℤ → Listing → Type 0
ListingKeepsToTable book number out given = ListKeepsToTable (listing_rules book number out) (loop_listing book number) out given

-- the lines of all loops, one loop after the other
abbrev pub ListingsKeepsToTable : Lent → List ℤ → Listing → Type 0
ListingsKeepsToTable book out given =
    ListKeepsToTable (listings_rules book out) (listings (loops_of (nat_abs book.b) book.lines)) out given

-- the not-checked list
abbrev pub NotCheckedKeepsToTable : Lent → List ℤ → Listing → Type 0
NotCheckedKeepsToTable book out given = ListKeepsToTable (not_checked_rules book out) (unchecked_of (nat_abs book.b) book.lines) out given

-- the junction sketch: its counts, and its lists in the first places of the outputs
abbrev pub sketch_done : Lent → Lists → Drawing
sketch_done book out = drawing (drawn (sketch_in (nat_abs book.b) book.lines)) (all_in_first_places (sketch_lists book) out)

abbrev pub SketchKeepsToTable : Lent → Lists → Drawing → Type 0
SketchKeepsToTable book out given =
    KeepsToTable (λ (d : Drawing). d.answer.refusal) (sketch_rules book out)
    (λ r. drawing (junctions.refused_with r) out) (sketch_done book out) given

-- a correction that makes the book's lines new: rows and pieces of the book as it then stands, its lines, and its kept report brought up
-- to date
abbrev pub correction_done : Lent → List ℤ → List ℤ → Corrected
correction_done book report new = corrected (counted (nat_abs book.b) new) new (updated report (afresh book) (afresh (with_lines book new)))

abbrev pub CorrectionKeepsToTable : List Rule → Lent → List ℤ → List ℤ → Corrected → Type 0
CorrectionKeepsToTable rules book report new given =
    KeepsToTable (λ (c : Corrected). c.answer.refusal) rules (λ r. corrected (survey.refused_with r) book.lines report)
    (correction_done book report new) given

abbrev pub RerunKeepsToTable : Lent → List ℤ → ℤ → ℤ → Corrected → Type 0
RerunKeepsToTable book report number difference given =
    CorrectionKeepsToTable (rerun_rules book report number difference) book report (rerun_lines book.lines number difference) given

abbrev pub WithdrawalKeepsToTable : Lent → List ℤ → ℤ → Corrected → Type 0
WithdrawalKeepsToTable book report number given =
    CorrectionKeepsToTable (withdraw_rules book report number) book report (withdraw_lines book.lines number) given

-- the reader: version, b, t, h and n as the file states them, its entries in the first places of the two buffers
abbrev pub read_done : List ℕ → List ℤ → List ℤ → Outcome
read_done file held lines =
    let k = stated_counts file in
    record {
      answer = done k;
      held = held_of file k ++ drop (k.held * held_words) held;
      lines = lines_of file k ++ drop (k.lines * line_words) lines;
    }

abbrev pub ReaderKeepsToTable : List ℕ → List ℤ → List ℤ → Outcome → Type 0
ReaderKeepsToTable file held lines given =
    KeepsToTable (λ (o : Outcome). o.answer.refusal) (file_rules file held lines)
    (λ r. answered held lines (read.refused_with r)) (read_done file held lines) given

-- the writer: how many bytes the book's file has, and the file in the first places of the lent one
abbrev pub write_done : Lent → List ℕ → Writing
write_done book file =
    let k = counts_of book in
    writing (writer.done k) (file_of k book.held book.lines ++ drop (length_of k) file)

abbrev pub WriterKeepsToTable : Lent → List ℕ → Writing → Type 0
WriterKeepsToTable book file given =
    KeepsToTable (λ (w : Writing). w.answer.refusal) (write_rules book file)
    (λ r. writing (writer.refused_with r) file) (write_done book file) given

-- "Each call tests all that it is lent": a faulty book gets the same refusal from every call, and nothing is changed (a re-run is refused
-- with 4 already where its new difference is outside the limit, and a rate where its heights are not b in number)
pub record SameAtEveryCall (book : Lent) (r : Told) : Type 0 where
  pub survey_of_lem : (out : List ℤ) → survey_of book out ≡ surveyed (survey.refused_with r) out
  pub listing_of_lem : (loop : ℤ) (out : List ℤ) → listing_of book loop out ≡ listing (lists.refused_with r) out
  pub listings_of_lem : (out : List ℤ) → listings_of book out ≡ listing (lists.refused_with r) out
  pub not_checked : (out : List ℤ) → not_checked_of book out ≡ listing (lists.refused_with r) out
  pub sketch_of : (out : Lists) → sketch_call book out ≡ drawing (junctions.refused_with r) out
  pub withdrawal : (report : List ℤ) (line : ℤ) → withdraw_of book report line ≡ corrected (survey.refused_with r) book.lines report
  pub re_run : (report : List ℤ) (line difference : ℤ) → nat_abs difference ≤ most_difference
      → rerun_of book report line difference ≡ corrected (survey.refused_with r) book.lines report
  pub adjustment : (out : List ℤ) → adjust_of book out ≡ adjusted (adjust.refused_with r) out
  pub written : (file : List ℕ) → write_of book file ≡ writing (writer.refused_with r) file
  pub rate : (heights : List ℤ) (line : ℤ) → pos (length heights) ≡ book.b → rate_answer book heights line ≡ rates.refused_with r

-- "3 .. before all else": a book of an unknown version gets 3 from every call, also where a new difference is outside its limit or the
-- heights are not b in number
pub record ThreeAtEveryCall (book : Lent) : Type 0 where
  pub every_call : SameAtEveryCall book (refusal 3 0)
  pub before_the_difference : (report : List ℤ) (line difference : ℤ)
      → rerun_of book report line difference ≡ corrected (survey.refused_with (refusal 3 0)) book.lines report
  pub before_the_heights : (heights : List ℤ) (line : ℤ) → rate_answer book heights line ≡ rates.refused_with (refusal 3 0)

-- a file that is read: it has 13 bytes or more, its stated length, version 1 or 2, a good book of the stated counts and nothing more, and
-- there is room for its entries
pub record Readable (file : List ℕ) (held lines : List ℤ) : Type 0 where
  pub long_enough : 13 ≤ length file
  pub its_length : stated_length file ≡ length file
  pub known_version : (stated_version file ≡ 1) ⊎ (stated_version file ≡ 2)
  pub whole : length file ≡ file_length (stated_version file) (stated_h file) (stated_n file)
  pub good : GoodBook (stated_counts file) (book_in file (stated_counts file))
  pub room_for_held : stated_h file * held_words ≤ length held
  pub room_for_lines : stated_n file * line_words ≤ length lines
