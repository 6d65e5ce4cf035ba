use Rattle.std.proofs.Common.{arith}
use Rattle.survey.proofs.Keeping.{ten_is, survey_is}
use Rattle.survey.proofs.report.survey_good.Goals as goal

pub returns-then-rows-count : goal.returns-then-rows-count
returns-then-rows-count c =
    ten_is _ _ c.requires c.find_loops-found.ensures.found c.args.rows.now (omega (arith, c.if-rows-count.true))

pub returns : goal.returns
returns c =
    survey_is _ _ c.requires c.find_loops-found.ensures.found c.args.rows.now _ (omega (arith, c.if-rows-count.false))
    c.write_rows.ensures
