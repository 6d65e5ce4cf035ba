use Rattle.std.proofs.Common.{arith}
use Rattle.chains.specs.Link.{RoomChains}
use Rattle.prepare.proofs.Drawing.{draw_start, draw_turn, draw_end}
use Rattle.prepare.proofs.draw_book.Goals as goal

pub loop-i-init : goal.loop-i-init
loop-i-init c =
    let room : RoomChains c.args.n c.zero-2.new.a c.args.next.now = record { heads = omega arith; nexts = c.requires.chains.nexts } in
    draw_start _ _ _ _ _ c.requires.some_mark (omega arith) room c.zero.ensures c.zero-2.ensures

pub loop-i-preserved : goal.loop-i-preserved
loop-i-preserved c =
    let room : RoomChains c.args.n c.loop-i.head c.loop-i.next = record { heads = omega arith; nexts = omega arith } in
    draw_turn _ _ _ _ _ _ _ _ _ (omega arith) (omega arith) c.requires room c.loop-i.invariant _ _ _ c.draw_line.ensures

pub returns : goal.returns
returns c = draw_end _ _ _ _ _ _ c.requires.few c.requires.few_marks (omega arith) c.loop-i.invariant
