use Rattle.std.proofs.Common.{arith, ◌≡◌, ◌∙◌, get_or, pos}
use mir.Syntax.{w64}
use mir.Val.{to_z, of_z}
use Rattle.laws.proofs.Signed.{stored}
use Rattle.book.specs.Limits.{most_height}
use Rattle.fields.proofs.Readback.{read}
use Rattle.sweeps.proofs.MarkTurns.{pull_here, pull_fits, total_fits, total_zero, move_is, move_fits}
use Rattle.sweeps.proofs.move_of.Goals as goal
use Rattle.sweeps.proofs.move_of.Goals.{After-pull_of-g}

-- g, as it is stored
pulled : (c : After-pull_of-g)
    → to_z w64 (of_z w64 c.pull_of-g.result) ≡ pull_here c.requires.table c.requires.working c.requires.place
pulled c =
    let h = read (get_or c.args.h.now c.args.v (pos 0)) most_height (c.requires.working.inside c.args.v) (omega arith) in
    stored c.pull_of-g.result c.pull_of-g.type_inv (c.pull_of-g.ensures ∙ rw h)

pub move_by-requires-clause-still : goal.move_by-requires-clause-still
move_by-requires-clause-still c =
    rw (pulled (goal.at.move_by-requires-clause-still c).After-pull_of-g) (total_zero c.requires.table c.requires.working c.requires.place)

pub move_by-requires-clause-divisor : goal.move_by-requires-clause-divisor
move_by-requires-clause-divisor c = total_fits c.requires.table c.requires.working c.requires.place

pub move_by-requires-clause-size : goal.move_by-requires-clause-size
move_by-requires-clause-size c =
    rw (pulled (goal.at.move_by-requires-clause-size c).After-pull_of-g)
    (omega (arith, pull_fits c.requires.table c.requires.working c.requires.place))

pub returns : goal.returns
returns c =
    let g = pulled (goal.at.returns c).After-pull_of-g in
    let e = stored c.move_by.result c.move_by.type_inv (c.move_by.ensures ∙ rw g) in (
      e ∙ move_is c.requires.table c.requires.working c.requires.place,
      rw e (move_fits c.requires.table c.requires.working c.requires.place),
    )
