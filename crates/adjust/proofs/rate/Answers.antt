use Rattle.std.proofs.Common.{rules, ◌≡◌, ◌∙◌, sym, ap, pos, length, not}
use Rattle.std.proofs.lemmas.Result.{err_from_is_err_and}
use mir.Facts.{to_z-of_z}
use Rattle.laws.specs.Tests.{eq_z}
use Rattle.laws.proofs.Signed.{stored}
use Rattle.book.specs.Lent.{lent}
use Rattle.book.specs.Test.{test_beside, Good, Refused}
use Rattle.book.specs.Refusals.{told_of}
use Rattle.book.proofs.Goods.{beside_passes}
use Rattle.fields.proofs.Stands.{lines_of}
use Rattle.rates.specs.Rates.{answer_of, heights_out, rate_answer}
use Rattle.rates.proofs.Rating.{marks_of}
use Rattle.adjust.proofs.rate.Goals as goal

pub returns-in_err-book : goal.returns-in_err-book
unfolding rate_answer answer_of heights_out
returns-in_err-book c =
    let a = c.args in
    let book = lent a.version a.b a.t a.held.now a.lines.now in
    let same : c.same-outside.result ≡ eq_z (pos (length a.heights.now)) a.b
    = c.same-outside.ensures ∙ rw (stored c.signed_count.result c.signed_count.type_inv c.signed_count.ensures, to_z-of_z c.ranges.b) in
    let outside : not c.same-outside.result ≡ heights_out book a.heights.now = ap not same in
    let told = err_from_is_err_and c.from_residual.result c.from_residual.ensures.1 in
    let refused : Refused (told_of c.in_err-book.field-0.0) ≡ test_beside (heights_out book a.heights.now) book
    = rw (← outside) (c.in_err-book.ensures ∙ search rules) in
    rw (told.1, told.2, ← refused)

pub good_rate-requires-clause-lines : goal.good_rate-requires-clause-lines
unfolding heights_out
good_rate-requires-clause-lines c =
    let a = c.args in
    let book = lent a.version a.b a.t a.held.now a.lines.now in
    let same : c.same-outside.result ≡ eq_z (pos (length a.heights.now)) a.b
    = c.same-outside.ensures ∙ rw (stored c.signed_count.result c.signed_count.type_inv c.signed_count.ensures, to_z-of_z c.ranges.b) in
    let outside : not c.same-outside.result ≡ heights_out book a.heights.now = ap not same in
    let passed : Good c.in_ok-book.book ≡ test_beside (heights_out book a.heights.now) book
    = rw (← outside) (c.in_ok-book.ensures ∙ search rules) in
    lines_of book _ (beside_passes book _ _ (sym passed)).1

pub good_rate-requires-clause-heights : goal.good_rate-requires-clause-heights
unfolding heights_out
good_rate-requires-clause-heights c =
    let a = c.args in
    let book = lent a.version a.b a.t a.held.now a.lines.now in
    let same : c.same-outside.result ≡ eq_z (pos (length a.heights.now)) a.b
    = c.same-outside.ensures ∙ rw (stored c.signed_count.result c.signed_count.type_inv c.signed_count.ensures, to_z-of_z c.ranges.b) in
    let outside : not c.same-outside.result ≡ heights_out book a.heights.now = ap not same in
    let passed : Good c.in_ok-book.book ≡ test_beside (heights_out book a.heights.now) book
    = rw (← outside) (c.in_ok-book.ensures ∙ search rules) in
    let p = beside_passes book _ _ (sym passed) in
    marks_of book _ p.1 a.heights.now p.0

pub returns : goal.returns
unfolding rate_answer heights_out
returns c =
    let a = c.args in
    let book = lent a.version a.b a.t a.held.now a.lines.now in
    let same : c.same-outside.result ≡ eq_z (pos (length a.heights.now)) a.b
    = c.same-outside.ensures ∙ rw (stored c.signed_count.result c.signed_count.type_inv c.signed_count.ensures, to_z-of_z c.ranges.b) in
    let outside : not c.same-outside.result ≡ heights_out book a.heights.now = ap not same in
    let passed : Good c.in_ok-book.book ≡ test_beside (heights_out book a.heights.now) book
    = rw (← outside) (c.in_ok-book.ensures ∙ search rules) in
    rw (← passed) (c.good_rate.ensures ∙ search rules)
