use Rattle.std.proofs.Common.{rules, arith}
use Rattle.start.proofs.Zeros.{blank}
use Rattle.adjust.proofs.Entering.{book_planted}
use Rattle.adjust.proofs.heights.adjust_in.Goals as goal

pub adjust_along-requires-clause-planted : goal.adjust_along-requires-clause-planted
adjust_along-requires-clause-planted c =
    let g = c.requires.good.lines_good in
    let room = c.requires.room in
    let k = c.plant_book.auto in
    book_planted _ _ g c.plant_book.ensures (omega (arith, k, room.by_mark, g.few_marks)) (omega (arith, k, room.by_mark, g.few_marks))

pub adjust_along-requires-clause-blank : goal.adjust_along-requires-clause-blank
adjust_along-requires-clause-blank c = blank c.args.book.marks 256 c.requires.good.lines_good.few_marks
