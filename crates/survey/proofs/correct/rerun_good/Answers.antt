use Rattle.std.proofs.Common.{rules, ◌≡◌, ◌<◌, ◌-◌, ◌∙◌, sym, refl, length, nat_abs, pos, arith, w64, to_z, of_z}
use Rattle.std.proofs.lemmas.Result.{err_from_is_err_and}
use lib.ListN.{set}
use mir.Facts.{to_z-of_z}
use Rattle.book.specs.Line.{difference_field}
use Rattle.book.specs.Good.{GoodLines}
use Rattle.book.specs.Refusals.{told_of}
use Rattle.survey.specs.Stands.{Stands}
use Rattle.survey.specs.Correction.{place_of, rerun_lines}
use Rattle.survey.specs.Kept.{Own, Refused, kept_of}
use Rattle.survey.proofs.Corrected.{stands_of, number_is, place_inside, rerun_lines_good}
use Rattle.survey.proofs.Keeping.{words_are, counts_are, is_refused, is_own, own_places, refreshed_same, corrected_is}
use Rattle.survey.proofs.Remeasured.{found_again, table_of_again}
use Rattle.survey.proofs.correct.rerun_good.Goals as goal

pub returns-in_err-found : goal.returns-in_err-found
returns-in_err-found c =
    let a = c.args in
    let told = err_from_is_err_and c.from_residual.result c.from_residual.ensures.1 in
    let refused : Refused (told_of c.in_err-found.field-0.0) ≡ kept_of a.book a.lines.now a.report.now a.number
    = c.in_err-found.ensures.kept ∙ search rules in
    rw (told.1, told.2) (is_refused _ _ c.requires.good _ _ refused _ refl)

pub place_of-at-requires-clause-number : goal.place_of-at-requires-clause-number
place_of-at-requires-clause-number c =
    let a = c.args in
    let s = c.requires.good in
    let kept : Own c.in_ok-found.found ≡ kept_of a.book a.lines.now a.report.now a.number = c.in_ok-found.ensures.kept ∙ search rules in
    let own = is_own _ _ s _ _ kept refl in
    let its : Stands a.lines.now a.number (nat_abs a.number - 1) = stands_of _ _ own.0 in
    rw (to_z-of_z c.ranges.number) (number_is s its)

pub offset_bounds-lines-at : goal.offset_bounds-lines-at
offset_bounds-lines-at c =
    let a = c.args in
    let s = c.requires.good in
    let kept : Own c.in_ok-found.found ≡ kept_of a.book a.lines.now a.report.now a.number = c.in_ok-found.ensures.kept ∙ search rules in
    let own = is_own _ _ s _ _ kept refl in
    let its : Stands a.lines.now a.number (nat_abs a.number - 1) = stands_of _ _ own.0 in
    let at : c.place_of-at.result ≡ place_of a.number difference_field = c.place_of-at.ensures ∙ search rules in
    let inside : c.place_of-at.result < length a.lines.now = rw at (place_inside its (omega arith)) in
    omega (arith, inside, c.well_formed)

pub bounds-lines-at : goal.bounds-lines-at
bounds-lines-at c =
    let a = c.args in
    let s = c.requires.good in
    let kept : Own c.in_ok-found.found ≡ kept_of a.book a.lines.now a.report.now a.number = c.in_ok-found.ensures.kept ∙ search rules in
    let own = is_own _ _ s _ _ kept refl in
    let its : Stands a.lines.now a.number (nat_abs a.number - 1) = stands_of _ _ own.0 in
    let at : c.place_of-at.result ≡ place_of a.number difference_field = c.place_of-at.ensures ∙ search rules in
    rw at (place_inside its (omega arith))

pub write_rows-requires-clause-good : goal.write_rows-requires-clause-good
unfolding rerun_lines
write_rows-requires-clause-good c =
    let a = c.args in
    let s = c.requires.good in
    let kept : Own c.in_ok-found.found ≡ kept_of a.book a.lines.now a.report.now a.number = c.in_ok-found.ensures.kept ∙ search rules in
    let own = is_own _ _ s _ _ kept refl in
    let its : Stands a.lines.now a.number (nat_abs a.number - 1) = stands_of _ _ own.0 in
    let at : c.place_of-at.result ≡ place_of a.number difference_field = c.place_of-at.ensures ∙ search rules in
    let new : set a.lines.now c.place_of-at.result (to_z w64 (of_z w64 a.difference)) ≡ rerun_lines a.lines.now a.number a.difference
    = rw (at, to_z-of_z c.ranges.difference) in
    let still : GoodLines a.book (rerun_lines a.lines.now a.number a.difference)
    = rerun_lines_good a.book a.lines.now s a.number _ its a.difference c.requires.difference in
    rw new still

pub write_rows-requires-clause-table : goal.write_rows-requires-clause-table
unfolding rerun_lines
write_rows-requires-clause-table c =
    let a = c.args in
    let s = c.requires.good in
    let kept : Own c.in_ok-found.found ≡ kept_of a.book a.lines.now a.report.now a.number = c.in_ok-found.ensures.kept ∙ search rules in
    let own = is_own _ _ s _ _ kept refl in
    let its : Stands a.lines.now a.number (nat_abs a.number - 1) = stands_of _ _ own.0 in
    let at : c.place_of-at.result ≡ place_of a.number difference_field = c.place_of-at.ensures ∙ search rules in
    let new : set a.lines.now c.place_of-at.result (to_z w64 (of_z w64 a.difference)) ≡ rerun_lines a.lines.now a.number a.difference
    = rw (at, to_z-of_z c.ranges.difference) in
    let still : GoodLines a.book (rerun_lines a.lines.now a.number a.difference)
    = rerun_lines_good a.book a.lines.now s a.number _ its a.difference c.requires.difference in
    rw new (table_of_again _ _ _ _ _ its (c.in_ok-found.ensures.table _ refl))

pub write_rows-requires-clause-room : goal.write_rows-requires-clause-room
unfolding rerun_lines
write_rows-requires-clause-room c =
    let a = c.args in
    let s = c.requires.good in
    let kept : Own c.in_ok-found.found ≡ kept_of a.book a.lines.now a.report.now a.number = c.in_ok-found.ensures.kept ∙ search rules in
    let own = is_own _ _ s _ _ kept refl in
    let its : Stands a.lines.now a.number (nat_abs a.number - 1) = stands_of _ _ own.0 in
    let at : c.place_of-at.result ≡ place_of a.number difference_field = c.place_of-at.ensures ∙ search rules in
    let new : set a.lines.now c.place_of-at.result (to_z w64 (of_z w64 a.difference)) ≡ rerun_lines a.lines.now a.number a.difference
    = rw (at, to_z-of_z c.ranges.difference) in
    let still : GoodLines a.book (rerun_lines a.lines.now a.number a.difference)
    = rerun_lines_good a.book a.lines.now s a.number _ its a.difference c.requires.difference in
    omega (arith, words_are _ _ s own.2, own_places _ _ s a.report.now own.1)

pub returns : goal.returns
unfolding rerun_lines
returns c =
    let a = c.args in
    let s = c.requires.good in
    let kept : Own c.in_ok-found.found ≡ kept_of a.book a.lines.now a.report.now a.number = c.in_ok-found.ensures.kept ∙ search rules in
    let own = is_own _ _ s _ _ kept refl in
    let its : Stands a.lines.now a.number (nat_abs a.number - 1) = stands_of _ _ own.0 in
    let at : c.place_of-at.result ≡ place_of a.number difference_field = c.place_of-at.ensures ∙ search rules in
    let new : set a.lines.now c.place_of-at.result (to_z w64 (of_z w64 a.difference)) ≡ rerun_lines a.lines.now a.number a.difference
    = rw (at, to_z-of_z c.ranges.difference) in
    let still : GoodLines a.book (rerun_lines a.lines.now a.number a.difference)
    = rerun_lines_good a.book a.lines.now s a.number _ its a.difference c.requires.difference in
    let again = own.2 ∙ sym (found_again a.book.marks a.lines.now a.number a.difference _ its) in
    rw new
    (corrected_is _ _ _ _ _ _ _ s own.0 own.1 own.2
    (refreshed_same _ _ still a.report.now _ _ _ (sym (words_are _ _ still again)) (counts_are _ _ still again)
    (rw new at c.write_rows.ensures)))
