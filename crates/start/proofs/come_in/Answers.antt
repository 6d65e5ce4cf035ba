use Rattle.std.proofs.Common.{arith, ◌-◌, ◌*◌, ◌∙◌, get_or, pos}
use Rattle.laws.proofs.Signed.{back, stored}
use Rattle.book.specs.Limits.{most_difference}
use Rattle.fields.proofs.Readback.{read}
use Rattle.start.proofs.Coming.{come_down}
use Rattle.start.proofs.come_in.Goals as goal

pub returns : goal.returns
returns c =
    let d = c.difference_of-d in
    let t = c.to_mark-to in
    let o = get_or c.args.over.now (t.result - 1) (pos 0) in
    let e = read o (c.args.k * most_difference) (c.requires.spotted.size (t.result - 1)) (omega (arith, c.requires.few)) in
    rw c.in-Some.is
    (come_down c.args.lines.now c.args.root.now c.args.over.now c.args.b c.args.k c.args.m c.requires.spotted c.in-Some.i t.result d.result
    _ c.if-to-m.false t.ensures.0 t.ensures.1 t.ensures.2 d.ensures.0 d.ensures.1
    (stored c.sub.result c.sub.type_inv (c.sub.ensures ∙ rw (e, back d.result d.type_inv))))
