use Rattle.std.proofs.Common.{rules, ◌≡◌, ◌∙◌}
use mathlib.Core.Bool.{◌||◌}
use Rattle.book.specs.Version.{version_out}
use Rattle.book.specs.Test.{book_out, book_of}
use Rattle.book.proofs.Book.new.Goals as goal

pub returns-then-outside_version : goal.returns-then-outside_version
unfolding book_of
returns-then-outside_version c =
    let version : c.outside_version.result ≡ version_out c.args.version = c.outside_version.ensures ∙ search rules in
    rw (← version, c.if-outside_version.true)

pub returns-then-outside-outside_tolerance : goal.returns-then-outside-outside_tolerance
unfolding book_of book_out
returns-then-outside-outside_tolerance c =
    let a = c.args in
    let version : c.outside_version.result ≡ version_out a.version = c.outside_version.ensures ∙ search rules in
    let outside
    : c.outside.result || c.outside_tolerance.result || c.outside_count.result || c.outside_count-2.result
    ≡ book_out a.version a.b a.t a.h a.n
    = rw (c.outside.ensures, c.outside_tolerance.ensures, c.outside_count.ensures, c.outside_count-2.ensures) (search rules) in
    rw (← version, c.if-outside_version.false, ← outside, c.if-outside-outside_tolerance.true)

pub returns : goal.returns
unfolding book_of book_out
returns c =
    let a = c.args in
    let version : c.outside_version.result ≡ version_out a.version = c.outside_version.ensures ∙ search rules in
    let outside
    : c.outside.result || c.outside_tolerance.result || c.outside_count.result || c.outside_count-2.result
    ≡ book_out a.version a.b a.t a.h a.n
    = rw (c.outside.ensures, c.outside_tolerance.ensures, c.outside_count.ensures, c.outside_count-2.ensures) (search rules) in
    rw (
      c.magnitude-3.ensures,
      c.magnitude-2.ensures,
      c.magnitude.ensures,
      ← version,
      c.if-outside_version.false,
      ← outside,
      c.if-outside-outside_tolerance.false,
    ) (search rules)
