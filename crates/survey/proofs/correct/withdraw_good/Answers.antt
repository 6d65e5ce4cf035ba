use Rattle.std.proofs.Common.{rules, ◌≡◌, ◌<◌, ◌-◌, ◌∙◌, sym, refl, length, nat_abs, pos, arith, w64, to_z, of_z}
use Rattle.std.proofs.lemmas.Result.{err_from_is_err_and}
use lib.ListN.{set}
use mir.Facts.{to_z-of_z}
use Rattle.book.specs.Line.{standing_field}
use Rattle.book.specs.Good.{GoodLines}
use Rattle.book.specs.Refusals.{told_of}
use Rattle.survey.specs.Stands.{Stands}
use Rattle.survey.specs.Correction.{place_of, withdraw_lines}
use Rattle.survey.specs.Kept.{Own, Refused, kept_of}
use Rattle.survey.proofs.Corrected.{stands_of, number_is, place_inside, withdrawn_lines_good, withdrawal_fewer}
use Rattle.survey.proofs.Keeping.{is_refused, is_own, corrected_is, refresh_of}
use Rattle.survey.proofs.correct.withdraw_good.Goals as goal

pub returns-in_err-found : goal.returns-in_err-found
returns-in_err-found c =
    let a = c.args in
    let told = err_from_is_err_and c.from_residual.result c.from_residual.ensures.1 in
    let refused : Refused (told_of c.in_err-found.field-0.0) ≡ kept_of a.book a.lines.now a.report.now a.number
    = c.in_err-found.ensures.kept ∙ search rules in
    rw (told.1, told.2) (is_refused _ _ c.requires _ _ refused _ refl)

pub place_of-at-requires-clause-number : goal.place_of-at-requires-clause-number
place_of-at-requires-clause-number c =
    let a = c.args in
    let s = c.requires in
    let kept : Own c.in_ok-found.found ≡ kept_of a.book a.lines.now a.report.now a.number = c.in_ok-found.ensures.kept ∙ search rules in
    let own = is_own _ _ s _ _ kept refl in
    let its : Stands a.lines.now a.number (nat_abs a.number - 1) = stands_of _ _ own.0 in
    rw (to_z-of_z c.ranges.number) (number_is s its)

pub offset_bounds-lines-at : goal.offset_bounds-lines-at
offset_bounds-lines-at c =
    let a = c.args in
    let s = c.requires in
    let kept : Own c.in_ok-found.found ≡ kept_of a.book a.lines.now a.report.now a.number = c.in_ok-found.ensures.kept ∙ search rules in
    let own = is_own _ _ s _ _ kept refl in
    let its : Stands a.lines.now a.number (nat_abs a.number - 1) = stands_of _ _ own.0 in
    let at : c.place_of-at.result ≡ place_of a.number standing_field = c.place_of-at.ensures ∙ search rules in
    let inside : c.place_of-at.result < length a.lines.now = rw at (place_inside its (omega arith)) in
    omega (arith, inside, c.well_formed)

pub slice_set_of-lines : goal.slice_set_of-lines
slice_set_of-lines c =
    let a = c.args in
    let s = c.requires in
    let kept : Own c.in_ok-found.found ≡ kept_of a.book a.lines.now a.report.now a.number = c.in_ok-found.ensures.kept ∙ search rules in
    let own = is_own _ _ s _ _ kept refl in
    let its : Stands a.lines.now a.number (nat_abs a.number - 1) = stands_of _ _ own.0 in
    let at : c.place_of-at.result ≡ place_of a.number standing_field = c.place_of-at.ensures ∙ search rules in
    rw at (place_inside its (omega arith))

pub refresh-requires-clause-good : goal.refresh-requires-clause-good
unfolding withdraw_lines
refresh-requires-clause-good c =
    let a = c.args in
    let s = c.requires in
    let kept : Own c.in_ok-found.found ≡ kept_of a.book a.lines.now a.report.now a.number = c.in_ok-found.ensures.kept ∙ search rules in
    let own = is_own _ _ s _ _ kept refl in
    let its : Stands a.lines.now a.number (nat_abs a.number - 1) = stands_of _ _ own.0 in
    let at : c.place_of-at.result ≡ place_of a.number standing_field = c.place_of-at.ensures ∙ search rules in
    let new : set a.lines.now c.place_of-at.result (pos 0) ≡ withdraw_lines a.lines.now a.number = rw at in
    let still : GoodLines a.book (withdraw_lines a.lines.now a.number) = withdrawn_lines_good a.book a.lines.now s a.number _ its in
    rw new still

pub refresh-requires-clause-refresh : goal.refresh-requires-clause-refresh
unfolding withdraw_lines
refresh-requires-clause-refresh c =
    let a = c.args in
    let s = c.requires in
    let kept : Own c.in_ok-found.found ≡ kept_of a.book a.lines.now a.report.now a.number = c.in_ok-found.ensures.kept ∙ search rules in
    let own = is_own _ _ s _ _ kept refl in
    let its : Stands a.lines.now a.number (nat_abs a.number - 1) = stands_of _ _ own.0 in
    let at : c.place_of-at.result ≡ place_of a.number standing_field = c.place_of-at.ensures ∙ search rules in
    let new : set a.lines.now c.place_of-at.result (pos 0) ≡ withdraw_lines a.lines.now a.number = rw at in
    let still : GoodLines a.book (withdraw_lines a.lines.now a.number) = withdrawn_lines_good a.book a.lines.now s a.number _ its in
    rw new (refresh_of _ _ _ _ s still (withdrawal_fewer _ _ s _ _ its) own.1 own.2)

pub returns : goal.returns
unfolding withdraw_lines
returns c =
    let a = c.args in
    let s = c.requires in
    let kept : Own c.in_ok-found.found ≡ kept_of a.book a.lines.now a.report.now a.number = c.in_ok-found.ensures.kept ∙ search rules in
    let own = is_own _ _ s _ _ kept refl in
    let its : Stands a.lines.now a.number (nat_abs a.number - 1) = stands_of _ _ own.0 in
    let at : c.place_of-at.result ≡ place_of a.number standing_field = c.place_of-at.ensures ∙ search rules in
    let new : set a.lines.now c.place_of-at.result (pos 0) ≡ withdraw_lines a.lines.now a.number = rw at in
    let still : GoodLines a.book (withdraw_lines a.lines.now a.number) = withdrawn_lines_good a.book a.lines.now s a.number _ its in
    rw new (corrected_is _ _ _ _ _ _ _ s own.0 own.1 own.2 (rw new at c.refresh.ensures))
