use Rattle.std.proofs.Common.{rules, ◌+◌, ◌≤◌, ◌∙◌, sym, length, arith}
use lib.Seq.{length-take-le}
use Rattle.book.specs.Limits.{most_lines}
use Rattle.junctions.proofs.Calling.{enough, roomy, ten_is, drawn_is}
use Rattle.junctions.proofs.write.Goals as goal

pub overflow_add-found : goal.overflow_add-found
overflow_add-found c = omega (arith, enough c.requires.some_sketch.held, c.requires.some_sketch.rows_few)

pub overflow_add-found-2 : goal.overflow_add-found-2
overflow_add-found-2 c = omega (arith, enough c.requires.some_sketch.held, c.requires.some_sketch.rows_few)

pub slice_bounds-lines-end : goal.slice_bounds-lines-end
slice_bounds-lines-end c = sym (length-take-le _ _ (enough c.requires.some_sketch.held))

pub lines-n-requires : goal.lines-n-requires
lines-n-requires c =
    let few = enough c.requires.some_sketch.held in
    omega (arith, few, c.requires.some_sketch.rows_few, length-take-le _ c.args.rows.now few)

pub any_short-requires-clause-few_links : goal.any_short-requires-clause-few_links
any_short-requires-clause-few_links c = omega (arith, enough c.requires.some_sketch.held, c.requires.some_sketch.rows_few)

pub any_short-requires-clause-few_spurs : goal.any_short-requires-clause-few_spurs
any_short-requires-clause-few_spurs c = omega (arith, enough c.requires.some_sketch.held, c.requires.some_sketch.rows_few)

pub any_short-requires-clause-few_loops : goal.any_short-requires-clause-few_loops
any_short-requires-clause-few_loops c = omega (arith, enough c.requires.some_sketch.held, c.requires.some_sketch.rows_few)

pub returns-then-any_short : goal.returns-then-any_short
returns-then-any_short c = λ s o. ten_is o _ c.lines-n.ensures _ (sym c.any_short.ensures ∙ c.if-any_short.true)

pub write_all-requires-clause-room : goal.write_all-requires-clause-room
write_all-requires-clause-room c = roomy _ _ _ (sym c.any_short.ensures ∙ c.if-any_short.false)

pub returns : goal.returns
returns c = λ s o.
    drawn_is o _ c.lines-n.ensures _ (sym c.any_short.ensures ∙ c.if-any_short.false) _ (c.write_all.ensures s o)
