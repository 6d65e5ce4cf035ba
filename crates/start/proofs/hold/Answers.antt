use Rattle.std.proofs.Common.{rules, arith, ◌≡◌, ◌-◌, nat_abs, ◌∙◌}
use mir.Syntax.{w64}
use mir.Val.{to_z, of_z}
use Rattle.laws.proofs.Signed.{back}
use Rattle.book.specs.Limits.{most_held_height}
use Rattle.book.specs.Held.{mark_at, height_at}
use Rattle.fields.proofs.Readback.{read}
use Rattle.start.proofs.Holding.{held_more}
use Rattle.start.proofs.hold.Goals as goal

pub returns : goal.returns
returns c =
    let mark = mark_at c.args.held.now c.args.i in
    let e : c.index-v.result ≡ nat_abs mark = c.index-v.ensures ∙ rw (back mark (search rules)) in
    held_more c.args.held.now c.args.flags.now c.args.own.now c.args.b c.args.i (c.index-v.result - 1)
    (to_z w64 (of_z w64 (height_at c.args.held.now c.args.i))) c.requires.entry c.requires.given
    (omega (arith, e, c.requires.entry.good.mark.low))
    (read (height_at c.args.held.now c.args.i) most_held_height c.requires.entry.good.height (omega arith))
