use Rattle.std.proofs.Common.{rules, ◌≡◌, refl}
use Rattle.std.proofs.lemmas.Result.{err_from_is_err_and}
use Rattle.book.proofs.Refusals.{told_from_1}
use Rattle.adjust.proofs.Calling.{call_done, call_refused}
use Rattle.adjust.proofs.heights.adjust_by.Goals as goal

pub returns-in_err-sweeps : goal.returns-in_err-sweeps
returns-in_err-sweeps c =
    let told = err_from_is_err_and c.from_residual.result c.from_residual.ensures.1 in
    rw (told.1, told.2)
    (call_refused c.args.book c.args.held.now c.args.lines.now c.args.heights.now _ _ c.requires.room c.in_err-sweeps.ensures
    (told_from_1 c.in_err-sweeps.field-0.0))

pub returns : goal.returns
returns c =
    call_done c.args.book c.args.held.now c.args.lines.now c.args.heights.now _ _ c.requires.room c.in_ok-sweeps.ensures refl _
    c.put.ensures
