use Rattle.std.proofs.Common.{rules, arith}
use lib.ListN.{length-take}
use Rattle.book.proofs.Refusals.{told_from_1}
use Rattle.page.proofs.Book.{none_refused, unchecked_fits, unchecked_is}
use Rattle.page.proofs.sheet.put_unchecked.Goals as goal

-- there is room for the most lines that there can be
pub unreachable-requires : goal.unreachable-requires
unreachable-requires c =
    told_from_1 c.in_default.field-0
    (none_refused c.args.book c.args.lines.now c.requires _ (search rules) c.in_default.ensures)

pub slice_bounds-list-end : goal.slice_bounds-list-end
slice_bounds-list-end c =
    unchecked_fits c.args.book c.args.lines.now c.requires _ (search rules) c.in-Ok.ensures c.not_checked_good.auto.out

pub slice_bounds-not_checked_text-end : goal.slice_bounds-not_checked_text-end
slice_bounds-not_checked_text-end c =
    let fits = unchecked_fits c.args.book c.args.lines.now c.requires _ (search rules) c.in-Ok.ensures c.not_checked_good.auto.out in
    simp length-take (omega (arith, fits))

pub returns : goal.returns
returns c =
    rw (unchecked_is c.args.book c.args.lines.now c.requires _ (search rules) c.in-Ok.ensures) at c.not_checked_text.ensures
