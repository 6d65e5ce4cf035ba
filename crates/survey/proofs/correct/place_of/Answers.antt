use Rattle.std.proofs.Common.{rules, ◌≡◌, ◌∙◌, nat_abs, arith}
use Rattle.survey.proofs.correct.place_of.Goals as goal

pub overflow_sub-result : goal.overflow_sub-result
overflow_sub-result c =
    let size : c.magnitude.result ≡ nat_abs c.args.number = c.magnitude.ensures ∙ search rules in
    omega (arith, size, c.requires.number.low)

pub overflow_mul-result : goal.overflow_mul-result
overflow_mul-result c =
    let size : c.magnitude.result ≡ nat_abs c.args.number = c.magnitude.ensures ∙ search rules in
    omega (arith, size, c.requires.number.high)

pub overflow_add-result : goal.overflow_add-result
overflow_add-result c =
    let size : c.magnitude.result ≡ nat_abs c.args.number = c.magnitude.ensures ∙ search rules in
    omega (arith, size, c.requires.number.high)

pub returns : goal.returns
returns c =
    let size : c.magnitude.result ≡ nat_abs c.args.number = c.magnitude.ensures ∙ search rules in
    omega (arith, size)
