use Rattle.std.proofs.Common.{rules, ◌≡◌, ◌∙◌, sym}
use Rattle.book.specs.Lent.{lent}
use Rattle.book.specs.Version.{version_out}
use Rattle.book.specs.Test.{tested, test_of, test_beside}
use Rattle.book.proofs.Goods.{beside_inside}
use Rattle.book.proofs.test_beside.Goals as goal

pub returns-then-outside_version : goal.returns-then-outside_version
unfolding test_beside
returns-then-outside_version c =
    let version : c.outside_version.result ≡ version_out c.args.version = c.outside_version.ensures ∙ search rules in
    rw (← version, c.if-outside_version.true)

pub returns-then-outside : goal.returns-then-outside
unfolding test_beside
returns-then-outside c =
    let version : c.outside_version.result ≡ version_out c.args.version = c.outside_version.ensures ∙ search rules in
    rw (← version, c.if-outside_version.false, c.if-outside.true)

pub returns : goal.returns
returns c =
    let a = c.args in
    let lent_book = lent a.version a.b a.t a.held.now a.lines.now in
    let told : tested c.test.result ≡ test_of lent_book = c.test.ensures ∙ search rules in
    told ∙ sym (beside_inside lent_book a.outside c.if-outside.false)
