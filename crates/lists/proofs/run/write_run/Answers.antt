use Rattle.std.proofs.Common.{arith, map}
use lib.ListN.{length-map}
use Rattle.lists.specs.Run.{listed_by}
use Rattle.lists.proofs.Lists.{list_ten, list_whole}
use Rattle.lists.proofs.run.write_run.Goals as goal

pub returns-then-out-run : goal.returns-then-out-run
returns-then-out-run c =
    list_ten _ c.args.out.now (omega (arith, length-map c.args.run.now listed_by, c.if-out-run.true))

pub returns : goal.returns
returns c =
    let n = length-map c.args.run.now listed_by in
    let w = list_whole (map listed_by c.args.run.now) c.args.out.now (omega (arith, n, c.if-out-run.false)) in
    rw c.list_run.ensures (rw n at w)
