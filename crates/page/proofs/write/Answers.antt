use Rattle.std.proofs.Common.{rules, ◌∙◌, arith}
use lib.ListN.{length-take}
use Rattle.page.specs.Printed.{text_of}
use Rattle.page.proofs.write.Goals as goal

pub returns-in-Err : goal.returns-in-Err
returns-in-Err c =
    let told = rw (← c.number.ensures, ← c.place.ensures) at (c.in-Err.ensures (text_of c.args.printed)) in
    rw told at c.refused_text.ensures

pub overflow_mul-words : goal.overflow_mul-words
overflow_mul-words c = omega (arith, c.in-Ok.ensures.good.good.few)

pub slice_bounds-lines-end : goal.slice_bounds-lines-end
slice_bounds-lines-end c = omega (arith, c.in-Ok.ensures.good.good.few, c.read_book.auto)

pub slice_bounds-put-end : goal.slice_bounds-put-end
slice_bounds-put-end c = simp length-take (omega (arith, c.in-Ok.ensures.good.good.few, c.read_book.auto))

pub put-requires : goal.put-requires
put-requires c = c.in-Ok.ensures.good

pub returns-in-Ok : goal.returns-in-Ok
returns-in-Ok c = rw (c.in-Ok.ensures.its_text (text_of c.args.printed)) at c.put.ensures
