use Rattle.std.proofs.Common.{arith}
use Rattle.joins.proofs.Taking.{spur_there, spur_asked, spur_moves, spur_taken}
use Rattle.joins.proofs.off.spur.Goals as goal

pub unwrap-i-requires : goal.unwrap-i-requires
unwrap-i-requires c = spur_there _ c.requires.some_end.tabled c.requires.some_end.some_end _ c.link_at.ensures

pub read_from-requires : goal.read_from-requires
read_from-requires c =
    let p = c.requires.some_end in
    spur_asked _ p.tabled p.some_end _ _ c.link_at.ensures c.unwrap-i.ensures c.requires.room.few

pub move_behind-requires : goal.move_behind-requires
move_behind-requires c =
    let p = c.requires.some_end in
    spur_moves _ p.tabled p.some_end _ _ c.link_at.ensures c.unwrap-i.ensures _ _ c.read_from.ensures (omega arith)

pub returns-clause-taken : goal.returns-clause-taken
returns-clause-taken c = λ s t some.
    spur_taken _ t some _ _ c.link_at.ensures c.unwrap-i.ensures _ _ c.read_from.ensures _ _ c.move_behind.ensures
