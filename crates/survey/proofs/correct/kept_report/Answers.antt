use Rattle.std.proofs.Common.{rules, ◌≡◌, ◌∙◌, sym, arith}
use lib.ListN.{length-take}
use Rattle.survey.specs.Correction.{no_line, other_report}
use Rattle.survey.proofs.Keeping.{fresh, few_words, front_is, no_table, own_table, kept_none, kept_other, kept_own}
use Rattle.survey.proofs.correct.kept_report.Goals as goal

pub returns-then-no_line-clause-kept : goal.returns-then-no_line-clause-kept
returns-then-no_line-clause-kept c =
    let gone : c.no_line.result ≡ no_line c.args.lines.now c.args.number = c.no_line.ensures ∙ search rules in
    kept_none _ _ c.requires.good _ _ (sym gone ∙ c.if-no_line.true)

pub returns-then-no_line-clause-table : goal.returns-then-no_line-clause-table
returns-then-no_line-clause-table c = no_table

pub write_rows-requires-clause-room : goal.write_rows-requires-clause-room
write_rows-requires-clause-room c = few_words _ _ c.requires.good c.find_loops-found.ensures.found

pub slice_bounds-rows-end : goal.slice_bounds-rows-end
slice_bounds-rows-end c =
    omega (arith, few_words _ _ c.requires.good c.find_loops-found.ensures.found, c.write_rows.auto)

pub slice_bounds-differs-end : goal.slice_bounds-differs-end
slice_bounds-differs-end c =
    simp length-take (omega (arith, few_words _ _ c.requires.good c.find_loops-found.ensures.found, c.write_rows.auto))

pub returns-then-differs-clause-kept : goal.returns-then-differs-clause-kept
returns-then-differs-clause-kept c =
    let gone : c.no_line.result ≡ no_line c.args.lines.now c.args.number = c.no_line.ensures ∙ search rules in
    let other : c.differs.result ≡ other_report c.args.report.now (fresh c.args.book c.args.lines.now c.requires.good)
    = rw (front_is _ _ c.requires.good c.find_loops-found.ensures.found _ _ c.write_rows.ensures) at c.differs.ensures in
    kept_other _ _ c.requires.good _ _ (sym gone ∙ c.if-no_line.false) (sym other ∙ c.if-differs.true)

pub returns-then-differs-clause-table : goal.returns-then-differs-clause-table
returns-then-differs-clause-table c = no_table

pub returns-clause-kept : goal.returns-clause-kept
returns-clause-kept c =
    let gone : c.no_line.result ≡ no_line c.args.lines.now c.args.number = c.no_line.ensures ∙ search rules in
    let other : c.differs.result ≡ other_report c.args.report.now (fresh c.args.book c.args.lines.now c.requires.good)
    = rw (front_is _ _ c.requires.good c.find_loops-found.ensures.found _ _ c.write_rows.ensures) at c.differs.ensures in
    kept_own _ _ c.requires.good _ _ (sym gone ∙ c.if-no_line.false) (sym other ∙ c.if-differs.false) c.find_loops-found.ensures.found

pub returns-clause-table : goal.returns-clause-table
returns-clause-table c = own_table c.find_loops-found.ensures.table
