use Rattle.std.proofs.Common.{arith, map, pos}
use lib.ListN.{length-map}
use Rattle.lists.proofs.Lists.{list_ten, list_whole}
use Rattle.lists.proofs.watch.write_list.Goals as goal

pub returns-then-out-count : goal.returns-then-out-count
returns-then-out-count c =
    list_ten _ c.args.out.now (omega (arith, length-map c.args.list.now pos, c.if-out-count.true))

pub returns : goal.returns
returns c =
    let n = length-map c.args.list.now pos in
    let w = list_whole (map pos c.args.list.now) c.args.out.now (omega (arith, n, c.if-out-count.false)) in
    rw c.list_numbers.ensures (rw n at w)
