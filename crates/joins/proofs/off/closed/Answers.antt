use Rattle.joins.proofs.Taking.{loop_asked, loop_lines, loop_moves, loop_taken}
use Rattle.joins.proofs.off.closed.Goals as goal

pub begin-requires-clause-there : goal.begin-requires-clause-there
begin-requires-clause-there c = loop_asked c.requires.closes.tabled c.requires.closes.first c.requires.room.few

pub begin-requires-clause-some_line : goal.begin-requires-clause-some_line
begin-requires-clause-some_line c =
    let p = c.requires.closes in
    loop_lines p.tabled p.first p.some_line

pub move_behind-requires : goal.move_behind-requires
move_behind-requires c =
    let p = c.requires.closes in
    loop_moves p.tabled p.first _ c.begin.ensures c.requires.room.few

pub returns-clause-taken : goal.returns-clause-taken
returns-clause-taken c = λ s t x f. loop_taken t f _ c.begin.ensures _ _ c.move_behind.ensures
