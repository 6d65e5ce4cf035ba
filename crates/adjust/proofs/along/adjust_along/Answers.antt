use Rattle.std.proofs.Common.{rules, ◌≡◌, ◌∙◌, sym, refl, arith, Ok, Err}
use Rattle.std.proofs.lemmas.Result.{err_from_is_err_and}
use Rattle.adjust.proofs.Whole.{held_in, unheld_answer, working, settled_answer, end_refusal}
use Rattle.fields.proofs.Named.{is_none, is_some_mark}
use Rattle.adjust.proofs.along.adjust_along.Goals as goal

pub start_heights-requires-clause-held : goal.start_heights-requires-clause-held
start_heights-requires-clause-held c =
    let g = c.requires.good.lines_good in
    held_in _ _ _ _ _ _ _ g.few_marks g.good c.requires.good.held_good c.requires.planted.entered _ _ c.hold_all.ensures

pub returns-in-Some : goal.returns-in-Some
returns-in-Some c =
    let g = c.requires.good.lines_good in
    let helds = c.requires.good.held_good in
    let p = c.requires.planted in
    let s = c.start_heights.ensures in
    let its = is_some_mark c.in-Some.mark s.0 (sym c.in-Some.is ∙ s.1) in
    unheld_answer _ _ _ _ _ _ _ g.few_marks g.good helds p.entered _ _ c.hold_all.ensures _ _ s.2 _ _ (omega (arith, its)) (rw its.0)

pub settle_lines-requires-clause-working : goal.settle_lines-requires-clause-working
settle_lines-requires-clause-working c =
    let g = c.requires.good.lines_good in
    let helds = c.requires.good.held_good in
    let p = c.requires.planted in
    let s = c.start_heights.ensures in
    working _ _ _ _ _ _ _ g.few_marks g.good helds p.entered _ _ c.hold_all.ensures _ _ s.2 (is_none s.0 (sym c.in_default.is ∙ s.1))

pub returns-in_err-settle_lines : goal.returns-in_err-settle_lines
returns-in_err-settle_lines c =
    let g = c.requires.good.lines_good in
    let helds = c.requires.good.held_good in
    let p = c.requires.planted in
    let s = c.start_heights.ensures in
    let told = err_from_is_err_and c.from_residual.result c.from_residual.ensures.1 in
    rw (told.1, told.2, end_refusal)
    (settled_answer _ _ _ _ _ _ _ g.few_marks g.good helds p.entered _ _ c.hold_all.ensures
    _ _ s.2 (is_none s.0 (sym c.in_default.is ∙ s.1)) _ (Err c.in_err-settle_lines.field-0.0) _ refl c.in_err-settle_lines.ensures)

pub returns : goal.returns
returns c =
    let g = c.requires.good.lines_good in
    let helds = c.requires.good.held_good in
    let p = c.requires.planted in
    let s = c.start_heights.ensures in
    settled_answer _ _ _ _ _ _ _ g.few_marks g.good helds p.entered _ _ c.hold_all.ensures
    _ _ s.2 (is_none s.0 (sym c.in_default.is ∙ s.1)) _ (Ok c.in_ok-settle_lines.field-0) _ refl c.in_ok-settle_lines.ensures
