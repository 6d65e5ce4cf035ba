use Rattle.std.proofs.Common.{rules, ◌≡◌, ◌∙◌, refl, false}
use Rattle.std.proofs.lemmas.Result.{err_from_is_err_and}
use borrow.Author.Tests.{eq-eqb, ne_eqb, lt-ltb}
use Rattle.book.specs.Held.{held_count, first_bad_held}
use Rattle.book.specs.Line.{line_count, first_bad_line}
use Rattle.book.specs.Version.{version_out}
use Rattle.book.specs.Test.{book_out, counts, book_of, torn, test_of}
use Rattle.book.proofs.Made.{no_book, book_made}
use Rattle.book.proofs.test.Goals as goal

pub returns-in_err-book : goal.returns-in_err-book
unfolding test_of
returns-in_err-book c =
    let a = c.args in
    let told = err_from_is_err_and c.from_residual.result c.from_residual.ensures.1 in
    rw (told.1, told.2)
    (no_book a.version a.b a.t (held_count a.held.now) (line_count a.lines.now) _ (c.in_err-book.ensures ∙ search rules) _ refl _)

pub returns-then-held-ne0 : goal.returns-then-held-ne0
unfolding test_of torn
returns-then-held-ne0 c =
    let a = c.args in
    let k = book_made a.version a.b a.t (held_count a.held.now) (line_count a.lines.now) _ (c.in_ok-book.ensures ∙ search rules) _ refl in
    rw (k.0, k.1, ne_eqb _ _ c.if-held-ne0.true)

pub returns-then-lines-ne0 : goal.returns-then-lines-ne0
unfolding test_of torn
returns-then-lines-ne0 c =
    let a = c.args in
    let k = book_made a.version a.b a.t (held_count a.held.now) (line_count a.lines.now) _ (c.in_ok-book.ensures ∙ search rules) _ refl in
    rw (k.0, k.1, eq-eqb _ _ c.if-held-ne0.false, ne_eqb _ _ c.if-lines-ne0.true)

pub returns-in-Some : goal.returns-in-Some
unfolding test_of torn
returns-in-Some c =
    let a = c.args in
    let k = book_made a.version a.b a.t (held_count a.held.now) (line_count a.lines.now) _ (c.in_ok-book.ensures ∙ search rules) _ refl in
    let bad : c.in-Some.entry ≡ first_bad_held a.b a.held.now = c.in-Some.ensures.found ∙ search rules in
    rw (k.0, k.1, eq-eqb _ _ c.if-held-ne0.false, eq-eqb _ _ c.if-lines-ne0.false, ← bad, lt-ltb 0 c.in-Some.entry c.in-Some.ensures.from_1)

pub returns-in-Some-first_bad_line : goal.returns-in-Some-first_bad_line
unfolding test_of torn
returns-in-Some-first_bad_line c =
    let a = c.args in
    let k = book_made a.version a.b a.t (held_count a.held.now) (line_count a.lines.now) _ (c.in_ok-book.ensures ∙ search rules) _ refl in
    let bad : c.in-Some-first_bad_line.line ≡ first_bad_line a.version a.b a.lines.now
    = c.in-Some-first_bad_line.ensures.found ∙ search rules in
    let none : 0 ≡ first_bad_held a.b a.held.now = c.in_default.ensures.found ∙ search rules in
    let number = c.in-Some-first_bad_line.line in
    rw (
      k.0,
      k.1,
      eq-eqb _ _ c.if-held-ne0.false,
      eq-eqb _ _ c.if-lines-ne0.false,
      ← none,
      ← bad,
      lt-ltb 0 number c.in-Some-first_bad_line.ensures.from_1,
    )

pub returns : goal.returns
unfolding test_of torn
returns c =
    let a = c.args in
    let k = book_made a.version a.b a.t (held_count a.held.now) (line_count a.lines.now) _ (c.in_ok-book.ensures ∙ search rules) _ refl in
    let no_held : 0 ≡ first_bad_held a.b a.held.now = c.in_default.ensures.found ∙ search rules in
    let no_line : 0 ≡ first_bad_line a.version a.b a.lines.now = c.in_default-first_bad_line.ensures.found ∙ search rules in
    rw (k.0, k.1, eq-eqb _ _ c.if-held-ne0.false, eq-eqb _ _ c.if-lines-ne0.false, ← no_held, ← no_line, ← k.2)
