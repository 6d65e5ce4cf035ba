-- Document 01, "Shut out": programs that the definitions rule out, each by a theorem. Assumes nothing.
use mathlib.Core.Path.{◌≡◌, refl, sym, ◌∙◌, ap}
use mathlib.Core.List.Memᴰ
use mathlib.Core.List.{List, [], ◌∷◌, ◌++◌, Memᴰ}
use Prim.Native.Nat.{ℕ, ◌-◌, ◌≤◌, ◌<◌}
use native.Mathlib.Omega.{arith}
use lib.ListN.{length, get_or, replicate}
use lib.IntN.{ℤ, pos, nat_abs}
use Rattle.laws.specs.Tests.{out_z, out_n, eq_z}
use Rattle.laws.specs.Scan.{first_from, first_bad, any_below}
use Rattle.book.specs.Lent.{Lent, lent}
use Rattle.book.specs.Line.{difference_at, difference_field}
use Rattle.book.specs.Good.{GoodBook}
use Rattle.book.specs.Test.{test_of, no_refusal}
use Rattle.book.specs.declared.Book.{Book}
use Rattle.book.specs.Test.{Good}
use Rattle.book.proofs.Passing.{good_passes}
use Rattle.network.specs.Standing.{Line, standing}
use Rattle.network.proofs.Standing.{from_on}
use Rattle.loops.specs.Row.{closing_number, row_closing}
use Rattle.loops.specs.Circuit.{Circuit}
use Rattle.loops.specs.Report.{report_of}
use Rattle.survey.specs.Survey.{surveyed, survey_of}
use Rattle.lists.specs.Listing.{listing}
use Rattle.lists.specs.NotChecked.{not_checked_of}
use Rattle.survey.specs.Correction.{corrected, place_of, rerun_of}
use Rattle.book.specs.Version.{no_class}
use Rattle.book.specs.Height.{work_height_out}
use Rattle.network.specs.Tree.{tree}
use Rattle.sights.specs.Sights.{sights_of}
use Rattle.start.specs.Start.{held_height, is_held, rooted_by, start_heights}
use Rattle.adjust.specs.Answers.{settled_at}
use Rattle.adjust.specs.Call.{adjusted, adjust_of}
use Rattle.demands.specs.Heights.{marks_heights}
use Rattle.demands.specs.TheLoops.{in_row}
use Rattle.demands.proofs.Done.{survey_done_exactly_if}
use Rattle.demands.proofs.Corrections.{rerun_sets_one_number}
use Rattle.demands.proofs.Reported.{each_row_is_of_its_loop, listed_exactly_if_no_circuit}

-- "a survey that always refuses": a book inside every limit, with room for its report, is answered
pub good_book_is_surveyed : (k : Book) (book : Lent) (out : List ℤ) → GoodBook k book
    → length (report_of (nat_abs book.b) (nat_abs book.t) book.lines) ≤ length out
    → (survey_of book out).answer.refusal.number ≡ 0
good_book_is_surveyed k book out good room = (survey_done_exactly_if book out).1 (k, good_passes k book good, room)

-- one mark and no line; two marks and two lines between them
abbrev no_lines : List ℤ
no_lines = []

abbrev line : ℤ → ℤ → ℤ → List ℤ
line from to difference = from ∷ to ∷ difference ∷ pos 10 ∷ pos 1 ∷ no_class ∷ []

abbrev two_lines : List ℤ
two_lines = line (pos 1) (pos 2) (pos 0) ++ line (pos 1) (pos 2) (pos 7)

no_line_surveyed : survey_of (lent (pos 1) (pos 1) (pos 1) [] no_lines) []
    ≡ surveyed (record { refusal = no_refusal; rows = 0; pieces = 1 }) []
unfolding survey_of out_z out_n eq_z first_from first_bad any_below
no_line_surveyed = refl

two_lines_surveyed : survey_of (lent (pos 1) (pos 2) (pos 1) [] two_lines) (replicate 5 (pos 0))
    ≡ surveyed (record { refusal = no_refusal; rows = 1; pieces = 1 }) (pos 2 ∷ pos 2 ∷ pos 20 ∷ pos 7 ∷ pos 0 ∷ [])
unfolding survey_of out_z out_n eq_z first_from first_bad any_below
two_lines_surveyed = refl

-- "one fixed report": no one count of rows fits every book
pub no_one_report_fits : (n : ℕ)
    → ((book : Lent) (out : List ℤ) → (survey_of book out).answer.refusal.number ≡ 0 → (survey_of book out).answer.rows ≡ n) → ⊥
no_one_report_fits n h =
    let none : 0 ≡ n = rw no_line_surveyed at (h (lent (pos 1) (pos 1) (pos 1) [] no_lines) [] (rw no_line_surveyed)) in
    let one : 1 ≡ n
    = rw two_lines_surveyed at (h (lent (pos 1) (pos 2) (pos 1) [] two_lines) (replicate 5 (pos 0)) (rw two_lines_surveyed)) in
    omega arith

-- "a re-run that does nothing": an accepted re-run to another difference changes the book
pub rerun_does_something : (book : Lent) (report : List ℤ) (number difference : ℤ)
    → (rerun_of book report number difference).answer.refusal.number ≡ 0
    → (difference ≡ difference_at book.lines (nat_abs number - 1) → ⊥) → (rerun_of book report number difference).lines ≡ book.lines → ⊥
rerun_does_something book report number difference z other same =
    other (sym (rerun_sets_one_number book report number difference z).changed
    ∙ ap (λ (x : List ℤ). get_or x (place_of number difference_field) (pos 0)) same)

-- and moves the report: of two lines between two marks line 2 is re-run from 7 to 8
pub rerun_moves_the_report :
    rerun_of (lent (pos 1) (pos 2) (pos 1) [] two_lines) (pos 2 ∷ pos 2 ∷ pos 20 ∷ pos 7 ∷ pos 0 ∷ []) (pos 2) (pos 8)
    ≡ corrected (record { refusal = no_refusal; rows = 1; pieces = 1 }) (line (pos 1) (pos 2) (pos 0) ++ line (pos 1) (pos 2) (pos 8))
    (pos 2 ∷ pos 2 ∷ pos 20 ∷ pos 8 ∷ pos 0 ∷ [])
unfolding rerun_of out_z out_n eq_z first_from first_bad any_below
rerun_moves_the_report = refl

-- "row 1 and .. the rest with zeros": no row that is answered begins with 0
pub no_row_of_zeros : (book : Lent) (k : Book) (passes : test_of book ≡ Good k) (out : List ℤ)
    → (survey_of book out).answer.refusal.number ≡ 0
    → (i : ℕ) → i < (survey_of book out).answer.rows → in_row row_closing (survey_of book out).rows i ≡ pos 0 → ⊥
unfolding standing
no_row_of_zeros book k passes out done i h e =
    let w = each_row_is_of_its_loop book k passes out done i h in
    let number = ap nat_abs (sym w.0.closing_line ∙ e) in
    let closes = ap closing_number w.1.closing_line_first in
    omega (arith, from_on 1 book.lines w.1.closing_line w.1.stands, number, closes)

-- "an empty not-checked list": where a standing line is on no circuit, the list is not empty
pub not_checked_list_is_not_empty : (book : Lent) (k : Book) → test_of book ≡ Good k → (out : List ℤ)
    → (not_checked_of book out).answer.refusal.number ≡ 0 → (l : Line) → Memᴰ l (standing book.lines)
    → (Circuit (standing book.lines) l.number → ⊥)
    → (not_checked_of book out).answer.entries ≡ 0 → ⊥
not_checked_list_is_not_empty book k passes out done l stands none empty =
    let i = (listed_exactly_if_no_circuit book k passes out done l.number).1 (l, stands, refl, none) in
    Memᴰ.not-nil (rw empty at i)

-- as the one line of a book of two marks is
pub one_line_is_not_checked : not_checked_of (lent (pos 1) (pos 2) (pos 1) [] (line (pos 1) (pos 2) (pos 0))) (pos 0 ∷ [])
    ≡ listing (record { refusal = no_refusal; entries = 1 }) (pos 1 ∷ [])
unfolding not_checked_of out_z out_n eq_z first_from first_bad any_below
one_line_is_not_checked = refl

-- two lines between a held mark and a free one say 0 and 7: the mark starts at 0, one sweep moves it to 3, half of 7 toward zero, and the
-- second moves nothing
two_lines_adjusted : adjust_of (lent (pos 1) (pos 2) (pos 1) (pos 1 ∷ pos 0 ∷ []) two_lines) (replicate 3 (pos 9))
    ≡ adjusted (settled_at 2) (pos 0 ∷ pos 3 ∷ pos 9 ∷ [])
unfolding adjust_of out_z out_n eq_z first_from first_bad any_below work_height_out tree standing rooted_by held_height is_held sights_of
two_lines_adjusted = refl

two_lines_start : start_heights 2 (pos 1 ∷ pos 0 ∷ []) two_lines ≡ pos 0 ∷ pos 0 ∷ []
unfolding start_heights tree standing rooted_by held_height
two_lines_start = refl

-- one mark, held
one_mark_adjusted : adjust_of (lent (pos 1) (pos 1) (pos 1) (pos 1 ∷ pos 5 ∷ []) no_lines) (replicate 1 (pos 9))
    ≡ adjusted (settled_at 1) (pos 5 ∷ [])
unfolding adjust_of out_z out_n eq_z first_from first_bad any_below work_height_out tree standing rooted_by held_height is_held sights_of
one_mark_adjusted = refl

-- "an adjustment that hands back its start": not every accepted adjustment is its start
pub adjustment_is_not_its_start : ((book : Lent) (out : List ℤ) → (adjust_of book out).answer.refusal.number ≡ 0
    → marks_heights book (adjust_of book out) ≡ start_heights (nat_abs book.b) book.held book.lines) → ⊥
adjustment_is_not_its_start h =
    let e : pos 0 ∷ pos 3 ∷ [] ≡ pos 0 ∷ pos 0 ∷ [] =
    rw (two_lines_adjusted, two_lines_start) at (h (lent (pos 1) (pos 2) (pos 1) (pos 1 ∷ pos 0 ∷ []) two_lines) (replicate 3 (pos 9))
    (rw two_lines_adjusted)) in
    let z : ◌≡◌ {A = ℕ} 3 0 = ap (λ (l : List ℤ). nat_abs (get_or l 1 (pos 0))) e in
    omega arith

-- "or a sweep number made up": no one number of sweeps fits every book
pub no_one_number_of_sweeps : (n : ℕ)
    → ((book : Lent) (out : List ℤ) → (adjust_of book out).answer.refusal.number ≡ 0 → (adjust_of book out).answer.sweeps ≡ n) → ⊥
no_one_number_of_sweeps n h =
    let one : 1 ≡ n =
    rw one_mark_adjusted at (h (lent (pos 1) (pos 1) (pos 1) (pos 1 ∷ pos 5 ∷ []) no_lines) (replicate 1 (pos 9)) (rw one_mark_adjusted)) in
    let two : 2 ≡ n =
    rw two_lines_adjusted at (h (lent (pos 1) (pos 2) (pos 1) (pos 1 ∷ pos 0 ∷ []) two_lines) (replicate 3 (pos 9))
    (rw two_lines_adjusted)) in
    omega arith
