use Rattle.std.proofs.Common.{rules, ◌≡◌, ◌∙◌, ◌-◌, ◌<◌, sym, refl, ap, pos, nat_abs, arith}
use Rattle.std.proofs.lemmas.Result.{err_from_is_err_and}
use mir.Facts.{to_z-of_z}
use borrow.Author.Tests.{lt-ltb}
use Rattle.laws.specs.Tests.{out_z}
use Rattle.laws.specs.Range.{Between}
use Rattle.laws.proofs.Signed.{stored}
use Rattle.laws.proofs.Size.{between, not_negative}
use Rattle.book.specs.Refusals.{Told}
use Rattle.rates.specs.Rates.{answer_of, first_high, good_rate}
use Rattle.rates.proofs.Rating.{working_lent}
use Rattle.rates.proofs.good_rate.Goals as goal

pub returns-then-outside : goal.returns-then-outside
unfolding good_rate answer_of
returns-then-outside c =
    let a = c.args in
    let out : out_z (pos 1) (pos a.book.lines) a.line ≡ c.outside.result
    = sym (c.outside.ensures ∙ rw (stored c.signed_count.result c.signed_count.type_inv c.signed_count.ensures, to_z-of_z c.ranges.line)) in
    rw (out ∙ c.if-outside.true)

pub returns-in_err-test_heights : goal.returns-in_err-test_heights
unfolding good_rate answer_of
returns-in_err-test_heights c =
    let a = c.args in
    let out : out_z (pos 1) (pos a.book.lines) a.line ≡ c.outside.result
    = sym (c.outside.ensures ∙ rw (stored c.signed_count.result c.signed_count.type_inv c.signed_count.ensures, to_z-of_z c.ranges.line)) in
    let told = err_from_is_err_and c.from_residual.result c.from_residual.ensures.1 in
    let e = c.in_err-test_heights.ensures.outside in
    let here : 0 < first_high a.heights.now = omega (arith, ap (λ (t : Told). t.place) e, c.in_err-test_heights.ensures.at) in
    rw (told.1, told.2, e, out ∙ c.if-outside.false, lt-ltb 0 (first_high a.heights.now) here)

pub index-requires : goal.index-requires
index-requires c =
    let a = c.args in
    let out : out_z (pos 1) (pos a.book.lines) a.line ≡ c.outside.result
    = sym (c.outside.ensures ∙ rw (stored c.signed_count.result c.signed_count.type_inv c.signed_count.ensures, to_z-of_z c.ranges.line)) in
    let k : Between 1 a.book.lines a.line = between 1 a.book.lines a.line (out ∙ c.if-outside.false) in
    rw (to_z-of_z c.ranges.line) (not_negative k)

pub line_rate-requires-clause-a_line : goal.line_rate-requires-clause-a_line
line_rate-requires-clause-a_line c =
    let a = c.args in
    let out : out_z (pos 1) (pos a.book.lines) a.line ≡ c.outside.result
    = sym (c.outside.ensures ∙ rw (stored c.signed_count.result c.signed_count.type_inv c.signed_count.ensures, to_z-of_z c.ranges.line)) in
    let k : Between 1 a.book.lines a.line = between 1 a.book.lines a.line (out ∙ c.if-outside.false) in
    let e : c.index.result ≡ nat_abs a.line = c.index.ensures ∙ rw (to_z-of_z c.ranges.line) in
    omega (arith, e, k.low)

pub line_rate-requires-clause-within : goal.line_rate-requires-clause-within
line_rate-requires-clause-within c =
    let a = c.args in
    let out : out_z (pos 1) (pos a.book.lines) a.line ≡ c.outside.result
    = sym (c.outside.ensures ∙ rw (stored c.signed_count.result c.signed_count.type_inv c.signed_count.ensures, to_z-of_z c.ranges.line)) in
    let k : Between 1 a.book.lines a.line = between 1 a.book.lines a.line (out ∙ c.if-outside.false) in
    let e : c.index.result ≡ nat_abs a.line = c.index.ensures ∙ rw (to_z-of_z c.ranges.line) in
    omega (arith, e, k.high, c.requires.lines.whole)

pub line_rate-requires-clause-good : goal.line_rate-requires-clause-good
line_rate-requires-clause-good c =
    let a = c.args in
    let out : out_z (pos 1) (pos a.book.lines) a.line ≡ c.outside.result
    = sym (c.outside.ensures ∙ rw (stored c.signed_count.result c.signed_count.type_inv c.signed_count.ensures, to_z-of_z c.ranges.line)) in
    let k : Between 1 a.book.lines a.line = between 1 a.book.lines a.line (out ∙ c.if-outside.false) in
    let e : c.index.result ≡ nat_abs a.line = c.index.ensures ∙ rw (to_z-of_z c.ranges.line) in
    c.requires.lines.each (c.index.result - 1) (omega (arith, e, k.low, k.high))

pub line_rate-requires-clause-heights : goal.line_rate-requires-clause-heights
line_rate-requires-clause-heights c =
    working_lent c.args.heights.now c.args.book.marks c.requires.heights c.in_ok-test_heights.ensures.inside

pub returns : goal.returns
unfolding good_rate
returns c =
    let a = c.args in
    let out : out_z (pos 1) (pos a.book.lines) a.line ≡ c.outside.result
    = sym (c.outside.ensures ∙ rw (stored c.signed_count.result c.signed_count.type_inv c.signed_count.ensures, to_z-of_z c.ranges.line)) in
    let k : Between 1 a.book.lines a.line = between 1 a.book.lines a.line (out ∙ c.if-outside.false) in
    let e : c.index.result ≡ nat_abs a.line = c.index.ensures ∙ rw (to_z-of_z c.ranges.line) in
    rw (out ∙ c.if-outside.false, c.in_ok-test_heights.ensures.inside, ← e) c.line_rate.ensures
