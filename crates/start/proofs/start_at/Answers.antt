use Rattle.std.proofs.Common.{arith, ◌≡◌, ◌-◌, ◌*◌, ◌∙◌, get_or, pos, ◌+ℤ◌}
use mir.Syntax.{w64}
use mir.Val.{to_z, of_z}
use Rattle.laws.proofs.Signed.{stored}
use Rattle.book.specs.Limits.{most_marks, most_difference, most_held_height}
use Rattle.start.specs.Along.{most_root, start_at}
use Rattle.fields.proofs.Readback.{read}
use Rattle.start.proofs.start_at.Goals as goal

pub returns : goal.returns
unfolding start_at
returns c =
    let k = c.requires.known in
    let v = c.args.v in
    let r = get_or c.args.root.now v 0 - 1 in
    let own = read (get_or c.args.own.now v (pos 0)) most_held_height (k.held.small v) (omega arith) in
    let over =
    read (get_or c.args.over.now v (pos 0)) (most_marks * most_difference) (omega (arith, k.spotted.size v, k.held.few)) (omega arith) in
    let base = read (get_or c.args.base.now r (pos 0)) most_root (c.requires.based.size r) (omega arith) in
    let sum = c.add-followed in
    let followed : to_z w64 (of_z w64 sum.result) ≡ get_or c.args.base.now r (pos 0) +ℤ get_or c.args.over.now v (pos 0) =
    stored sum.result sum.type_inv (sum.ensures ∙ rw (base, over)) in
    stored c.reset.result c.reset.type_inv (c.reset.ensures ∙ rw (own, followed))
