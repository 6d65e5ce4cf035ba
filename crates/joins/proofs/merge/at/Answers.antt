use Rattle.std.proofs.Common.{arith}
use Rattle.joins.proofs.Taking.{one_there, one_asked, other_there, other_asked, both_asked, merged}
use Rattle.joins.proofs.merge.at.Goals as goal

pub unwrap-i-requires : goal.unwrap-i-requires
unwrap-i-requires c = one_there _ c.requires.two.tabled c.requires.two.two _ c.link_at.ensures

pub unwrap-requires : goal.unwrap-requires
unwrap-requires c =
    let p = c.requires.two in
    other_there _ p.tabled p.two _ _ c.link_at.ensures c.unwrap-i.ensures _ c.link_at-2.ensures

pub read_to-requires : goal.read_to-requires
read_to-requires c =
    let p = c.requires.two in
    one_asked _ p.tabled p.two _ _ c.link_at.ensures c.unwrap-i.ensures _ _ c.link_at-2.ensures c.unwrap.ensures c.requires.room.few

pub read_from-requires : goal.read_from-requires
read_from-requires c =
    let p = c.requires.two in
    other_asked _ p.tabled p.two _ _ c.link_at.ensures c.unwrap-i.ensures _ _ c.link_at-2.ensures c.unwrap.ensures
    _ _ c.read_to.ensures (omega arith)

pub join-requires : goal.join-requires
join-requires c =
    let p = c.requires.two in
    both_asked _ p.tabled p.two _ _ c.link_at.ensures c.unwrap-i.ensures _ _ c.link_at-2.ensures c.unwrap.ensures
    _ _ c.read_to.ensures _ _ c.read_from.ensures (omega arith) (omega arith)

pub returns-clause-merged : goal.returns-clause-merged
returns-clause-merged c = λ s t two.
    merged _ t two _ _ c.link_at.ensures c.unwrap-i.ensures _ _ c.link_at-2.ensures c.unwrap.ensures
    _ _ c.read_to.ensures _ _ c.read_from.ensures _ _ c.join.ensures
