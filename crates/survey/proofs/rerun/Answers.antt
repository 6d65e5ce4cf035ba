use Rattle.std.proofs.Common.{rules, ◌≡◌, ◌∙◌, sym}
use Rattle.std.proofs.lemmas.Result.{err_from_is_err_and}
use mir.Facts.{to_z-of_z}
use Rattle.laws.proofs.Size.{size_within}
use Rattle.book.specs.Limits.{most_difference}
use Rattle.book.specs.Line.{difference_out}
use Rattle.book.specs.Lent.{lent}
use Rattle.book.specs.Test.{test_beside, Good, Refused}
use Rattle.book.specs.Refusals.{told_of}
use Rattle.book.proofs.Goods.{tested_good, beside_passes, good_lines}
use Rattle.survey.specs.Correction.{correct_of, rerun_of}
use Rattle.survey.proofs.rerun.Goals as goal

pub returns-in_err-book : goal.returns-in_err-book
unfolding rerun_of correct_of
returns-in_err-book c =
    let a = c.args in
    let book = lent a.version a.b a.t a.held.now a.lines.now in
    let told = err_from_is_err_and c.from_residual.result c.from_residual.ensures.1 in
    let outside : c.outside_difference-outside.result ≡ difference_out a.difference
    = c.outside_difference-outside.ensures ∙ search rules in
    let refused : Refused (told_of c.in_err-book.field-0.0) ≡ test_beside (difference_out a.difference) book
    = rw (← outside) (c.in_err-book.ensures ∙ search rules) in
    rw (told.1, told.2, ← refused)

pub rerun_good-requires-clause-good : goal.rerun_good-requires-clause-good
rerun_good-requires-clause-good c =
    let a = c.args in
    let book = lent a.version a.b a.t a.held.now a.lines.now in
    let passed : Good c.in_ok-book.book ≡ test_beside c.outside_difference-outside.result book
    = c.in_ok-book.ensures ∙ search rules in
    good_lines _ _ (tested_good book _ (beside_passes book _ _ (sym passed)).1)

pub rerun_good-requires-clause-difference : goal.rerun_good-requires-clause-difference
unfolding difference_out
rerun_good-requires-clause-difference c =
    let a = c.args in
    let book = lent a.version a.b a.t a.held.now a.lines.now in
    let outside : c.outside_difference-outside.result ≡ difference_out a.difference
    = c.outside_difference-outside.ensures ∙ search rules in
    let passed : Good c.in_ok-book.book ≡ test_beside (difference_out a.difference) book
    = rw (← outside) (c.in_ok-book.ensures ∙ search rules) in
    rw (to_z-of_z c.ranges.difference) (size_within most_difference _ (beside_passes book _ _ (sym passed)).0)

pub returns : goal.returns
unfolding rerun_of correct_of
returns c =
    let a = c.args in
    let book = lent a.version a.b a.t a.held.now a.lines.now in
    let outside : c.outside_difference-outside.result ≡ difference_out a.difference
    = c.outside_difference-outside.ensures ∙ search rules in
    let passed : Good c.in_ok-book.book ≡ test_beside (difference_out a.difference) book
    = rw (← outside) (c.in_ok-book.ensures ∙ search rules) in
    rw (← passed) (c.rerun_good.ensures ∙ search rules)
