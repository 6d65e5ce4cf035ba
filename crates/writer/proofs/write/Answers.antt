use Rattle.std.proofs.Common.{rules, ◌≡◌, ◌∙◌, sym}
use Rattle.std.proofs.lemmas.Result.{err_from_is_err_and}
use Rattle.book.specs.Lent.{lent}
use Rattle.book.specs.Test.{test_of, Good, Refused}
use Rattle.book.specs.Refusals.{told_of}
use Rattle.book.proofs.Goods.{tested_good, good_lines}
use Rattle.writer.specs.Write.{write_of}
use Rattle.writer.proofs.write.Goals as goal

pub returns-in_err-book : goal.returns-in_err-book
unfolding write_of
returns-in_err-book c =
    let a = c.args in
    let book = lent a.version a.b a.t a.held.now a.lines.now in
    let told = err_from_is_err_and c.from_residual.result c.from_residual.ensures.1 in
    let refused : Refused (told_of c.in_err-book.field-0.0) ≡ test_of book = c.in_err-book.ensures ∙ search rules in
    rw (told.1, told.2, ← refused)

pub write_good-requires-clause-lines : goal.write_good-requires-clause-lines
write_good-requires-clause-lines c =
    let a = c.args in
    let book = lent a.version a.b a.t a.held.now a.lines.now in
    let passed : Good c.in_ok-book.book ≡ test_of book = c.in_ok-book.ensures ∙ search rules in
    good_lines _ _ (tested_good book _ (sym passed))

pub write_good-requires-clause-held : goal.write_good-requires-clause-held
write_good-requires-clause-held c =
    let a = c.args in
    let book = lent a.version a.b a.t a.held.now a.lines.now in
    let passed : Good c.in_ok-book.book ≡ test_of book = c.in_ok-book.ensures ∙ search rules in
    (tested_good book _ (sym passed)).held_good

pub returns : goal.returns
unfolding write_of
returns c =
    let a = c.args in
    let book = lent a.version a.b a.t a.held.now a.lines.now in
    let passed : Good c.in_ok-book.book ≡ test_of book = c.in_ok-book.ensures ∙ search rules in
    rw (← passed) c.write_good.ensures
