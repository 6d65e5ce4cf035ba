use Rattle.std.proofs.Common.{◌<◌, ◌-◌, arith}
use Rattle.std.proofs.lemmas.List.{get_or-take, length-take}
use Rattle.chains.specs.Link.{RoomChains}
use Rattle.subgraph.proofs.Laying.{lay_start, laid_next, lay_end, laid_high}
use Rattle.subgraph.proofs.lay_tree.Goals as goal

pub loop-mark-init : goal.loop-mark-init
loop-mark-init c =
    let room : RoomChains c.args.n c.zero.new.a c.args.next.now = record { heads = omega arith; nexts = c.requires.room.chains.nexts } in
    (omega arith, λ q lines li ho. lay_start _ _ _ lines li _ _ ho _ _ room c.zero.ensures)

pub loop-mark-preserved : goal.loop-mark-preserved
loop-mark-preserved c =
    let v = c.loop-mark.invariant in
    let inside : c.loop-mark.mark-index < c.args.n - 1 = omega (arith, length-take (c.args.n - 1) c.args.order.now) in
    let e = rw (get_or-take (c.args.n - 1) c.args.order.now c.loop-mark.mark-index 0 inside) at c.lay_mark-count.ensures in
    let room : RoomChains c.args.n c.loop-mark.head c.loop-mark.next = record { heads = omega arith; nexts = omega arith } in
    (omega (arith, laid_high e), λ q lines li ho. laid_next _ _ _ lines li _ _ ho _ _ _ _ _ _ _ (omega arith) room (v.1 q lines li ho) e)

pub returns : goal.returns
returns c =
    λ q lines li ho. lay_end _ _ _ lines li _ _ ho _ _ _ _ (omega arith) (omega (arith, length-take (c.args.n - 1) c.args.order.now))
    (c.loop-mark.invariant.1 q lines li ho)
