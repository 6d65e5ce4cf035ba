use Rattle.std.proofs.Common.{arith}
use Rattle.table.proofs.Finding.{listed_of, fills_of, found_is, table_is}
use Rattle.table.proofs.find_in.Goals as goal

pub fill-requires : goal.fill-requires
fill-requires c =
    let p = c.requires in
    let planted = c.plant_book.ensures in
    fills_of _ _ p.good p.work planted (c.order_loops-found.ensures _ (listed_of _ _ p.good planted) planted.holding) p.room
    (omega arith) (omega arith) (omega arith)

pub returns-clause-found : goal.returns-clause-found
returns-clause-found c =
    let p = c.requires in
    let planted = c.plant_book.ensures in
    found_is _ _ p.good p.work planted (c.order_loops-found.ensures _ (listed_of _ _ p.good planted) planted.holding)

pub returns-clause-table : goal.returns-clause-table
returns-clause-table c =
    let p = c.requires in
    let planted = c.plant_book.ensures in
    table_is _ _ p.good p.work planted (c.order_loops-found.ensures _ (listed_of _ _ p.good planted) planted.holding) c.fill.ensures
