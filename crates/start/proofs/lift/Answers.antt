use Rattle.std.proofs.Common.{arith, ◌*◌, ◌∙◌, get_or, pos}
use mir.Syntax.{w64}
use mir.Val.{to_z, of_z}
use Rattle.laws.proofs.Signed.{stored}
use Rattle.book.specs.Limits.{most_marks, most_difference, most_held_height}
use Rattle.fields.proofs.Readback.{read}
use Rattle.start.proofs.Lifting.{lift_held, lift_free}
use Rattle.start.proofs.lift.Goals as goal

pub returns-then-flags-v : goal.returns-then-flags-v
returns-then-flags-v c =
    let k = c.requires.known in
    let v = c.args.v in
    let own = read (get_or c.args.own.now v (pos 0)) most_held_height (k.held.small v) (omega arith) in
    let over =
    read (get_or c.args.over.now v (pos 0)) (most_marks * most_difference) (omega (arith, k.spotted.size v, k.held.few)) (omega arith) in
    lift_held c.args.flags.now c.args.own.now c.args.root.now c.args.over.now c.args.has.now c.args.base.now c.args.b v k c.requires.place
    c.requires.given c.if-flags-v.true (to_z w64 (of_z w64 c.sub-z.result))
    (stored c.sub-z.result c.sub-z.type_inv (c.sub-z.ensures ∙ rw (own, over)))

pub returns-else-flags-v : goal.returns-else-flags-v
returns-else-flags-v c = lift_free _ _ _ _ _ _ c.args.b c.args.v c.requires.known c.requires.place c.requires.given c.if-flags-v.false
