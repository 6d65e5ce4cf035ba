-- "any two answers allowed are equal": each contract is an equation with a definition, or a text put by a definition, so that two answers
-- that it allows are one.
-- Assumes nothing.
use mathlib.Core.Path.{◌≡◌, refl, sym, ◌∙◌, ap}
use mathlib.Core.Bool.{Bool}
use mathlib.Core.List.{List, [], ◌∷◌}
use Prim.Native.Nat.{ℕ}
use lib.IntN.{ℤ}
use Rattle.std.specs.Prelude.{Result, Ok, Err, IfErr}
use Rattle.book.specs.declared.Book.{Book}
use Rattle.book.specs.declared.refusal.Refusal.{Refusal}
use Rattle.book.specs.Refusals.{Told, number_of, place_of, told_of}
use Rattle.book.specs.declared.height.Height.{Height}
use Rattle.book.specs.declared.held.Held.{Held}
use Rattle.book.specs.declared.line.Line.{Line}
use Rattle.book.specs.declared.line.Fault.{Fault}
use Rattle.book.specs.declared.line.Fault.TheVariants.{End, EqualEnds, Difference, Length, Standing, Class}
use Rattle.book.specs.Test as tests
use Rattle.book.specs.Line as lines
use native.Mathlib.Omega.{arith}
use lib.ListN.{get_or}
use Rattle.book.proofs.Refusals.{told_from_1, told_apart}
use Rattle.table.specs.declared.Found.{Found}
use Rattle.junctions.specs.declared.Sizes.{Sizes}
use Rattle.rates.specs.declared.LineRate.{LineRate}
use Rattle.file.specs.Read as read
use Rattle.writer.specs.Write as write
use Rattle.survey.specs.Report as survey
use Rattle.lists.specs.Listing as lists
use Rattle.junctions.specs.Call as sketch
use Rattle.adjust.specs.Answers as adjust
use Rattle.rates.specs.Rates as rates
use Rattle.book.specs.Lent.{Lent}
use Rattle.book.specs.Height.{made_height, held_height_of, work_height_of}
use Rattle.book.specs.Held.{made_held, held_entry_of}
use Rattle.book.specs.Line.{fault_number, made_line, line_of}
use Rattle.book.specs.Test.{book_of, tested, test_of, test_beside}
use Rattle.book.specs.Test.{Tested}
use Rattle.book.specs.Height.{MadeHeight}
use Rattle.book.specs.Held.{MadeHeld}
use Rattle.book.specs.Line.{MadeLine}
use Rattle.file.specs.Read.{Outcome, read_of}
use Rattle.writer.specs.Write.{Writing, write_of}
use Rattle.survey.specs.Survey.{Surveyed, survey_of}
use Rattle.lists.specs.Listing.{Listing, listing_of, listings_of}
use Rattle.lists.specs.NotChecked.{not_checked_of}
use Rattle.survey.specs.Correction.{Corrected, rerun_of, withdraw_of}
use Rattle.rates.specs.Rates.{row_of, rate_answer}
use Rattle.rates.specs.declared.Rate.{Rate}
use Rattle.rates.specs.declared.RateRow.{RateRow}
use Rattle.rates.specs.Rates.{RateAnswer}
use Rattle.adjust.specs.Call.{Given, adjust_of}
use Rattle.text.specs.Put.{Put}
use Rattle.text.proofs.Puts.{put_unique}
use Rattle.page.specs.Page.{page_of}
use Rattle.page.specs.Sketch.{sketch_page_of}
use Rattle.level.specs.Signed.{ReadNow, of_read}
use Rattle.level.specs.Writings.{WritingNow, of_writing}
use Rattle.level.specs.Answers.{SurveyNow, of_survey, CorrectionNow, of_correction}
use Rattle.level.specs.Listings.{ListingNow, of_listing}
use Rattle.level.specs.Sketches.{SketchNow, of_sketch}
use Rattle.junctions.specs.Call.{Lists, Drawing, sketch_call}
use Rattle.level.specs.Heights.{AdjustNow, of_adjust}
use Rattle.level.specs.Rating.{signed_rate}
use Rattle.level.specs.declared.Rated.{Rated}

-- two answers that are what a definition gives are one
one_answer : {A : Type 0} (given x y : A) → x ≡ given → y ≡ given → x ≡ y
one_answer given x y e f = e ∙ sym f

-- ---- the calls

-- the reader: b, t, h and n, and both buffers
pub reader_has_one_answer : (file : List ℕ) (held lines : List ℤ) (x y : Outcome) → x ≡ read_of file held lines
    → y ≡ read_of file held lines → x ≡ y
reader_has_one_answer file held lines = one_answer (read_of file held lines)

-- the writer: answer and file
pub writer_has_one_answer : (book : Lent) (file : List ℕ) (x y : Writing) → x ≡ write_of book file → y ≡ write_of book file → x ≡ y
writer_has_one_answer book file = one_answer (write_of book file)

-- the survey: answer and rows
pub survey_has_one_answer : (book : Lent) (out : List ℤ) (x y : Surveyed) → x ≡ survey_of book out → y ≡ survey_of book out → x ≡ y
survey_has_one_answer book out = one_answer (survey_of book out)

-- the listing of a loop: answer and output
pub listing_has_one_answer : (book : Lent) (loop : ℤ) (out : List ℤ) (x y : Listing)
    → x ≡ listing_of book loop out → y ≡ listing_of book loop out → x ≡ y
listing_has_one_answer book loop out = one_answer (listing_of book loop out)

-- the listing of all loops: answer and output
pub listings_has_one_answer : (book : Lent) (out : List ℤ) (x y : Listing)
    → x ≡ listings_of book out → y ≡ listings_of book out → x ≡ y
listings_has_one_answer book out = one_answer (listings_of book out)

-- the junction sketch: answer and the four outputs
pub sketch_has_one_answer : (book : Lent) (out : Lists) (x y : Drawing) → x ≡ sketch_call book out → y ≡ sketch_call book out → x ≡ y
sketch_has_one_answer book out = one_answer (sketch_call book out)

-- the not-checked list: answer and output
pub not_checked_has_one_answer : (book : Lent) (out : List ℤ) (x y : Listing)
    → x ≡ not_checked_of book out → y ≡ not_checked_of book out → x ≡ y
not_checked_has_one_answer book out = one_answer (not_checked_of book out)

-- re-run: answer, lines and report
pub rerun_has_one_answer : (book : Lent) (report : List ℤ) (line difference : ℤ) (x y : Corrected)
    → x ≡ rerun_of book report line difference → y ≡ rerun_of book report line difference → x ≡ y
rerun_has_one_answer book report line difference = one_answer (rerun_of book report line difference)

-- withdrawal: answer, lines and report
pub withdrawal_has_one_answer : (book : Lent) (report : List ℤ) (line : ℤ) (x y : Corrected)
    → x ≡ withdraw_of book report line → y ≡ withdraw_of book report line → x ≡ y
withdrawal_has_one_answer book report line = one_answer (withdraw_of book report line)

-- the adjustment: answer and heights
pub adjustment_has_one_answer : (book : Lent) (out : List ℤ) (x y : Given) → x ≡ adjust_of book out → y ≡ adjust_of book out → x ≡ y
adjustment_has_one_answer book out = one_answer (adjust_of book out)

-- the correction rate
pub rate_has_one_answer : (book : Lent) (heights : List ℤ) (line : ℤ) (x y : RateAnswer)
    → x ≡ rate_answer book heights line → y ≡ rate_answer book heights line → x ≡ y
rate_has_one_answer book heights line = one_answer (rate_answer book heights line)

-- ---- the calls as C sees them

pub level_read_has_one_answer : (file : List ℕ) (held lines : List ℤ) (x y : ReadNow)
    → x ≡ of_read (read_of file held lines) → y ≡ of_read (read_of file held lines) → x ≡ y
level_read_has_one_answer file held lines = one_answer (of_read (read_of file held lines))

pub level_write_has_one_answer : (book : Lent) (file : List ℕ) (x y : WritingNow)
    → x ≡ of_writing (write_of book file) → y ≡ of_writing (write_of book file) → x ≡ y
level_write_has_one_answer book file = one_answer (of_writing (write_of book file))

pub level_survey_has_one_answer : (book : Lent) (out : List ℤ) (x y : SurveyNow)
    → x ≡ of_survey (survey_of book out) → y ≡ of_survey (survey_of book out) → x ≡ y
level_survey_has_one_answer book out = one_answer (of_survey (survey_of book out))

pub level_listing_has_one_answer : (book : Lent) (loop : ℤ) (out : List ℤ) (x y : ListingNow)
    → x ≡ of_listing (listing_of book loop out) → y ≡ of_listing (listing_of book loop out) → x ≡ y
level_listing_has_one_answer book loop out = one_answer (of_listing (listing_of book loop out))

pub level_sketch_has_one_answer : (book : Lent) (out : Lists) (x y : SketchNow)
    → x ≡ of_sketch (sketch_call book out) → y ≡ of_sketch (sketch_call book out) → x ≡ y
level_sketch_has_one_answer book out = one_answer (of_sketch (sketch_call book out))

pub level_listings_has_one_answer : (book : Lent) (out : List ℤ) (x y : ListingNow)
    → x ≡ of_listing (listings_of book out) → y ≡ of_listing (listings_of book out) → x ≡ y
level_listings_has_one_answer book out = one_answer (of_listing (listings_of book out))

pub level_not_checked_has_one_answer : (book : Lent) (out : List ℤ) (x y : ListingNow)
    → x ≡ of_listing (not_checked_of book out) → y ≡ of_listing (not_checked_of book out) → x ≡ y
level_not_checked_has_one_answer book out = one_answer (of_listing (not_checked_of book out))

pub level_rerun_has_one_answer : (book : Lent) (report : List ℤ) (line difference : ℤ) (x y : CorrectionNow)
    → x ≡ of_correction (rerun_of book report line difference) → y ≡ of_correction (rerun_of book report line difference) → x ≡ y
level_rerun_has_one_answer book report line difference = one_answer (of_correction (rerun_of book report line difference))

pub level_withdraw_has_one_answer : (book : Lent) (report : List ℤ) (line : ℤ) (x y : CorrectionNow)
    → x ≡ of_correction (withdraw_of book report line) → y ≡ of_correction (withdraw_of book report line) → x ≡ y
level_withdraw_has_one_answer book report line = one_answer (of_correction (withdraw_of book report line))

pub level_adjust_has_one_answer : (book : Lent) (out : List ℤ) (x y : AdjustNow)
    → x ≡ of_adjust (adjust_of book out) → y ≡ of_adjust (adjust_of book out) → x ≡ y
level_adjust_has_one_answer book out = one_answer (of_adjust (adjust_of book out))

pub level_rate_has_one_answer : (book : Lent) (heights : List ℤ) (line : ℤ) (x y : Rated)
    → x ≡ signed_rate (rate_answer book heights line) → y ≡ signed_rate (rate_answer book heights line) → x ≡ y
level_rate_has_one_answer book heights line = one_answer (signed_rate (rate_answer book heights line))

-- ---- what is printed

-- each text function: the bytes after it and the place after the text
pub text_has_one_answer : (out a b : List ℕ) (at r s : ℕ) (text : List ℕ) → Put out a at r text → Put out b at s text → (a ≡ b) × (r ≡ s)
text_has_one_answer out a b at r s text p q = put_unique p q

-- the whole report of a file
pub report_has_one_text : (file out a b : List ℕ) (r s : ℕ) → Put out a 0 r (page_of file) → Put out b 0 s (page_of file)
    → (a ≡ b) × (r ≡ s)
report_has_one_text file out a b r s p q = put_unique p q

pub sketch_has_one_text : (file out a b : List ℕ) (r s : ℕ) → Put out a 0 r (sketch_page_of file) → Put out b 0 s (sketch_page_of file)
    → (a ≡ b) × (r ≡ s)
sketch_has_one_text file out a b r s p q = put_unique p q

-- a row for printing
pub row_has_one_answer : (line : ℕ) (correction : ℤ) (rate : Rate) (x y : RateRow) → x ≡ row_of line correction rate
    → y ≡ row_of line correction rate → x ≡ y
row_has_one_answer line correction rate = one_answer (row_of line correction rate)

-- ---- the test of a lent book, and the constructors

pub test_has_one_answer : (book : Lent) (x y : Tested) → x ≡ test_of book → y ≡ test_of book → x ≡ y
test_has_one_answer book = one_answer (test_of book)

pub test_beside_has_one_answer : (outside : Bool) (book : Lent) (x y : Tested) → x ≡ test_beside outside book
    → y ≡ test_beside outside book → x ≡ y
test_beside_has_one_answer outside book = one_answer (test_beside outside book)

pub book_has_one_answer : (version b t : ℤ) (h n : ℕ) (x y : Tested) → x ≡ book_of version b t h n → y ≡ book_of version b t h n → x ≡ y
book_has_one_answer version b t h n = one_answer (book_of version b t h n)

pub line_has_one_answer : (b from to difference length standing : ℤ) (x y : MadeLine)
    → x ≡ line_of b from to difference length standing → y ≡ line_of b from to difference length standing → x ≡ y
line_has_one_answer b from to difference length standing = one_answer (line_of b from to difference length standing)

pub held_entry_has_one_answer : (b mark height : ℤ) (x y : MadeHeld) → x ≡ held_entry_of b mark height → y ≡ held_entry_of b mark height
    → x ≡ y
held_entry_has_one_answer b mark height = one_answer (held_entry_of b mark height)

pub held_height_has_one_answer : (z : ℤ) (x y : MadeHeight) → x ≡ held_height_of z → y ≡ held_height_of z → x ≡ y
held_height_has_one_answer z = one_answer (held_height_of z)

pub work_height_has_one_answer : (z : ℤ) (x y : MadeHeight) → x ≡ work_height_of z → y ≡ work_height_of z → x ≡ y
work_height_has_one_answer z = one_answer (work_height_of z)

-- ---- as the code has them: two results of a call that are told alike are one, so that each call has one result

module _ {T A : Type 0} (view : Result T Refusal → A) (told : A → Told) (is_told : (r : Refusal) → told (view (Err r)) ≡ told_of r)
    (no_refusal : (t : T) → (told (view (Ok t))).number ≡ 0) (counts_told : (t u : T) → view (Ok t) ≡ view (Ok u) → t ≡ u) where
  apart : (t : T) (r : Refusal) → view (Ok t) ≡ view (Err r) → ⊥
  apart t r e =
      told_from_1 r (sym (ap (λ (x : Told). x.number) (is_told r)) ∙ sym (ap (λ (a : A). (told a).number) e) ∙ no_refusal t)

  told_whole : (x y : Result T Refusal) → view x ≡ view y → x ≡ y
  told_whole (Ok t) (Ok u) e = ap Ok (counts_told t u e)
  told_whole (Ok t) (Err r) e = absurd (apart t r e)
  told_whole (Err r) (Ok t) e = absurd (apart t r (sym e))
  told_whole (Err r) (Err s) e = ap Err (told_apart r s (sym (is_told r) ∙ ap told e ∙ is_told s))

pub reader_told_whole : (x y : Result Book Refusal) → read.answer_of x ≡ read.answer_of y → x ≡ y
reader_told_whole = told_whole read.answer_of (λ a. a.refusal) (λ r. refl) (λ t. refl) (λ t u e. book_of_read e)
  where
    book_of_read : {t u : Book} → read.answer_of (Ok t) ≡ read.answer_of (Ok u) → t ≡ u
    book_of_read e =
        ap (λ (a : read.ReadAnswer). record { version = a.version; marks = a.b; tolerance = a.t; held = a.h; lines = a.n }) e

pub writer_told_whole : (x y : Result ℕ Refusal) → write.answer_of x ≡ write.answer_of y → x ≡ y
writer_told_whole =
    told_whole write.answer_of (λ a. a.refusal) (λ r. refl) (λ t. refl) (λ t u e. ap (λ (a : write.Written). a.bytes) e)

pub survey_told_whole : (x y : Result Found Refusal) → survey.answer_of x ≡ survey.answer_of y → x ≡ y
survey_told_whole =
    told_whole survey.answer_of (λ a. a.refusal) (λ r. refl) (λ t. refl)
    (λ t u e. ap (λ (a : survey.Answer). record { count = a.rows; pieces = a.pieces }) e)

pub listing_told_whole : (x y : Result ℕ Refusal) → lists.answer_of x ≡ lists.answer_of y → x ≡ y
listing_told_whole =
    told_whole lists.answer_of (λ a. a.refusal) (λ r. refl) (λ t. refl) (λ t u e. ap (λ (a : lists.Listed). a.entries) e)

pub sketch_told_whole : (x y : Result Sizes Refusal) → sketch.answer_of x ≡ sketch.answer_of y → x ≡ y
sketch_told_whole =
    told_whole sketch.answer_of (λ a. a.refusal) (λ r. refl) (λ t. refl)
    (λ t u e. ap (λ (a : sketch.Sketched). record { links = a.links; spurs = a.spurs; loops = a.loops; run = a.run }) e)

pub adjustment_told_whole : (x y : Result ℕ Refusal) → adjust.answer_by x ≡ adjust.answer_by y → x ≡ y
adjustment_told_whole =
    told_whole adjust.answer_by (λ a. a.refusal) (λ r. refl) (λ t. refl) (λ t u e. ap (λ (a : adjust.Adjusted). a.sweeps) e)

pub rate_told_whole : (x y : Result LineRate Refusal) → rates.answer_of x ≡ rates.answer_of y → x ≡ y
unfolding rates.answer_of rates.refused_with
rate_told_whole =
    told_whole rates.answer_of (λ a. a.refusal) (λ r. refl) (λ t. refl)
    (λ t u e. ap (λ (a : RateAnswer). record { line = a.line; correction = a.correction; rate = a.rate }) e)

-- the test of a book
pub test_told_whole : (x y : Result Book Refusal) → tested x ≡ tested y → x ≡ y
test_told_whole (Ok k) (Ok j) e = ap Ok (cc)
test_told_whole (Ok k) (Err r) e = let z : ◌≡◌ {A = ℕ} 0 1 = cc in absurd (omega arith)
test_told_whole (Err r) (Ok k) e = let z : ◌≡◌ {A = ℕ} 0 1 = cc in absurd (omega arith)
test_told_whole (Err r) (Err s) e = ap Err (told_apart r s (refusals_one e))
  where
    refusals_one : {r s : Told} → tests.Refused r ≡ tests.Refused s → r ≡ s
    refusals_one e = cc

-- the constructors: a height or a held entry by its number and its place, a line by its fault
module _ (at : ℕ) where
  by_number_and_place : (r s : Refusal) → number_of r ≡ number_of s → place_of r ≡ at → place_of s ≡ at → r ≡ s
  by_number_and_place r s n p q =
      told_apart r s (ap (λ (x : ℕ). record { number = x; place = place_of r }) n
      ∙ ap (λ (x : ℕ). record { number = number_of s; place = x }) (p ∙ sym q))

  pub height_told_whole : (x y : Result Height Refusal) → made_height x ≡ made_height y
      → IfErr x (λ r. place_of r ≡ at) → IfErr y (λ r. place_of r ≡ at) → x ≡ y
  height_told_whole (Ok h) (Ok j) e p q = ap Ok (cc)
  height_told_whole (Ok h) (Err r) e p q = let z : ◌≡◌ {A = ℕ} 0 1 = cc in absurd (omega arith)
  height_told_whole (Err r) (Ok h) e p q = let z : ◌≡◌ {A = ℕ} 0 1 = cc in absurd (omega arith)
  height_told_whole (Err r) (Err s) e p q = ap Err (by_number_and_place r s (cc) p q)

  pub held_entry_told_whole : (x y : Result Held Refusal) → made_held x ≡ made_held y
      → IfErr x (λ r. place_of r ≡ at) → IfErr y (λ r. place_of r ≡ at) → x ≡ y
  held_entry_told_whole (Ok h) (Ok j) e p q = ap Ok (cc)
  held_entry_told_whole (Ok h) (Err r) e p q = let z : ◌≡◌ {A = ℕ} 0 1 = cc in absurd (omega arith)
  held_entry_told_whole (Err r) (Ok h) e p q = let z : ◌≡◌ {A = ℕ} 0 1 = cc in absurd (omega arith)
  held_entry_told_whole (Err r) (Err s) e p q = ap Err (by_number_and_place r s (cc) p q)

abbrev fault_at_number : ℕ → Fault
fault_at_number n = get_or (End ∷ End ∷ EqualEnds ∷ Difference ∷ Length ∷ Standing ∷ Class ∷ []) n End

fault_again : (f : Fault) → fault_at_number (fault_number f) ≡ f
fault_again End = refl
fault_again EqualEnds = refl
fault_again Difference = refl
fault_again Length = refl
fault_again Standing = refl
fault_again Class = refl

pub line_told_whole : (x y : Result Line Fault) → made_line x ≡ made_line y → x ≡ y
line_told_whole (Ok l) (Ok m) e = ap Ok (cc)
line_told_whole (Ok l) (Err f) e = let z : ◌≡◌ {A = ℕ} 0 1 = cc in absurd (omega arith)
line_told_whole (Err f) (Ok l) e = let z : ◌≡◌ {A = ℕ} 0 1 = cc in absurd (omega arith)
line_told_whole (Err f) (Err g) e = ap Err (sym (fault_again f) ∙ ap fault_at_number (numbers_one e) ∙ fault_again g)
  where
    numbers_one : {a b : ℕ} → lines.Refused 7 a ≡ lines.Refused 7 b → a ≡ b
    numbers_one e = cc
