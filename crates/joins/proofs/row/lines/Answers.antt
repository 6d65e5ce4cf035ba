use Rattle.std.proofs.Common.{rules, ◌≡◌, sym, ◌∙◌}
use Rattle.std.specs.List.{sum_by}
use Rattle.joins.specs.Row.{count_of}
use Rattle.joins.proofs.Sums.{lines_sum}
use Rattle.joins.proofs.row.lines.Goals as goal

pub returns : goal.returns
returns c =
    let counts : c.sum.result ≡ sum_by (λ row. count_of row) c.args.rows.now = search rules in
    counts ∙ sym (lines_sum _)
