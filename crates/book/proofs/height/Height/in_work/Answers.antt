use Rattle.std.proofs.Common.{rules, ◌≡◌, ◌∙◌}
use Rattle.book.specs.Height.{work_height_of, work_height_out}
use Rattle.book.proofs.height.Height.in_work.Goals as goal

pub returns-then-outside-clause-made : goal.returns-then-outside-clause-made
unfolding work_height_of work_height_out
returns-then-outside-clause-made c =
    let out : c.outside.result ≡ work_height_out c.args.x = c.outside.ensures ∙ search rules in
    rw (← out, c.if-outside.true)

pub returns-clause-made : goal.returns-clause-made
unfolding work_height_of work_height_out
returns-clause-made c =
    let out : c.outside.result ≡ work_height_out c.args.x = c.outside.ensures ∙ search rules in
    rw (← out, c.if-outside.false) (search rules)
