use Rattle.table.proofs.Ordering.{ready_of, few_laid, started}
use Rattle.table.proofs.order.order_loops.Goals as goal

pub closing_lines-count-requires : goal.closing_lines-count-requires
closing_lines-count-requires c = ready_of c.requires

pub overflow_sub-result-2 : goal.overflow_sub-result-2
overflow_sub-result-2 c =
    let p = c.requires in
    few_laid _ _ _ p.some_line p.lines p.listed _ _ _ _ _ _ p.closes
    (c.closing_lines-count.ensures p.lines p.listed p.holding) (c.lay_tree-tree_lines.ensures _ p.lines p.listed p.holding)

pub returns : goal.returns
returns c = λ lines li ho. started _ _ _ c.requires.some_line lines li _ _ _ _ _ _ c.requires.closes
    (c.closing_lines-count.ensures lines li ho) (c.lay_tree-tree_lines.ensures _ lines li ho)
