use Rattle.std.proofs.Common.{arith, ◌≡◌, ◌+◌, ◌*◌, get_or}
use mir.Syntax.{w64}
use mir.Val.{to_z, of_z}
use Rattle.book.specs.Limits.{most_difference}
use Rattle.chains.specs.Chains.{line_in}
use Rattle.fields.proofs.Readback.{read}
use Rattle.start.proofs.Coming.{entered, ends_of}
use Rattle.start.proofs.enter.Goals as goal

pub returns : goal.returns
returns c =
    let r = c.come_in-r in
    let g = c.requires.growth in
    let place = c.requires.place in
    let line = line_in c.args.best.now (get_or c.args.order.now c.args.k 0) in
    let e : to_z w64 (of_z w64 r.result.over) ≡ r.result.over =
    read r.result.over ((c.args.k + 1) * most_difference) r.ensures.size (omega (arith, place, c.requires.few)) in
    let s = rw c.line_into.ensures at r.ensures in
    rw e (entered c.args.lines.now c.args.order.now c.args.best.now c.args.b c.args.n c.args.k g place c.args.root.now c.args.over.now
    r.result.root r.result.over c.requires.placing
    (ends_of c.args.lines.now c.args.b c.args.n c.requires.good line (g.lines c.args.k place)) s)
