use Rattle.std.proofs.Common.{arith, ◌≡◌, false, ℤ, pos, ◌+ℤ◌, get_or, ◌∙◌, ap}
use mir.Syntax.{w64}
use mir.Val.{to_z, of_z}
use Rattle.laws.proofs.Signed.{back, stored}
use Rattle.book.specs.Limits.{most_height}
use Rattle.book.specs.Height.{work_height_out, made_height}
use Rattle.book.specs.declared.height.Height.{Height}
use Rattle.book.proofs.Made.{work_height_made, no_work_height}
use Rattle.fields.proofs.Readback.{read}
use Rattle.sweeps.proofs.MarkTurns.{working_set, visit_outside, visit_within}
use Rattle.sweeps.proofs.visit.Goals as goal
use Rattle.sweeps.proofs.visit.Goals.{After-add}

-- the sum is the height with the move
summed : (c : After-add) → to_z w64 (of_z w64 c.add.result) ≡ get_or c.args.h.now c.args.v (pos 0) +ℤ c.move_of-d.result
summed c =
    let h = read (get_or c.args.h.now c.args.v (pos 0)) most_height (c.requires.working.inside c.args.v) (omega arith) in
    let d = back c.move_of-d.result c.move_of-d.type_inv in
    stored c.add.result c.add.type_inv (c.add.ensures ∙ rw (h, d))

pub returns-in_default : goal.returns-in_default
returns-in_default c =
    let a : After-add = (goal.at.returns-in_default c).After-add in (
      visit_outside _ c.args.h.now c.args.v c.move_of-d.result _ c.move_of-d.ensures.0 (summed a)
          (no_work_height _ _ c.in_work-made.ensures.made _ (ap made_height c.in_default.is)).0,
      c.requires.working,
    )

pub returns : goal.returns
returns c =
    let a : After-add = (goal.at.returns c).After-add in
    let made = work_height_made _ _ c.in_work-made.ensures.made _ (ap made_height c.in-Ok.is) in
    let z = to_z w64 (of_z w64 c.in-Ok.height.micrometres) in
    let e : z ≡ to_z w64 (of_z w64 c.add.result) =
    ap (λ (h : Height). to_z w64 (of_z w64 h.micrometres)) made.1
    ∙ ap (λ (x : ℤ). to_z w64 (of_z w64 x)) (back c.add.result c.add.type_inv) in
    let inside : work_height_out z ≡ false = rw e made.0 in
    let same = c.same.ensures ∙ rw (back c.move_of-d.result c.move_of-d.type_inv) in (
      visit_within _ c.args.h.now c.args.v c.move_of-d.result z c.move_of-d.ensures.0 (e ∙ summed a) inside c.same.result same,
      working_set c.args.h.now c.args.b c.args.v z c.requires.working inside,
    )
