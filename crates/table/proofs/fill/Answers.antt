use Rattle.std.proofs.Common.{◌<◌, refl, arith, rules, length-set, length-drop}
use Rattle.std.proofs.lemmas.List.{get_or-take, length-take}
use Rattle.table.proofs.Filling.{AllFilledTo, all_start, all_next, fill_end, run_room, path_few, small_number, takes_of}
use Rattle.table.proofs.fill.Goals as goal

pub loop-i-init : goal.loop-i-init
loop-i-init c =
    let a = c.args in
    let w : AllFilledTo a.n a.count 0 0 a.ends.now a.close.now a.head.now a.next.now a.head.now a.next.now a.starts.now a.runs.now
    = all_start in
    (w, λ lt. run_room c.requires w lt refl, λ lt. small_number c.requires w lt _ (get_or-take a.count a.close.now 0 0 lt))

pub take_loop-requires : goal.take_loop-requires
take_loop-requires c =
    let a = c.args in
    let lt : c.loop-i.i < a.count = omega (arith, length-take a.count a.close.now) in
    takes_of c.requires c.loop-i.invariant.0 lt _ (get_or-take a.count a.close.now c.loop-i.i 0 lt)
    (record {
      room = record { few = c.requires.room.few; bests = omega arith; segs = omega arith };
      outs = simp (length-take, length-drop, length-set) (omega (arith, c.loop-i.invariant.1 lt));
    })

pub overflow_add-at-in-loop-i-2 : goal.overflow_add-at-in-loop-i-2
overflow_add-at-in-loop-i-2 c =
    let a = c.args in
    let lt : c.loop-i.i < a.count = omega (arith, length-take a.count a.close.now) in
    let few = path_few c.requires c.loop-i.invariant.0 lt _ (get_or-take a.count a.close.now c.loop-i.i 0 lt) c.take_loop.ensures in
    omega (arith, c.loop-i.invariant.1 lt, few)

pub loop-i-preserved : goal.loop-i-preserved
loop-i-preserved c =
    let a = c.args in
    let v = c.loop-i.invariant in
    let lt : c.loop-i.i < a.count = omega (arith, length-take a.count a.close.now) in
    let w = all_next v.0 lt _ (get_or-take a.count a.close.now c.loop-i.i 0 lt) (omega arith) (v.1 lt) _ c.take_loop.ensures in
    (w, λ l. run_room c.requires w l (search rules), λ l. small_number c.requires w l _ (get_or-take a.count a.close.now _ 0 l))

pub returns : goal.returns
returns c = λ lines r. fill_end (c.loop-i.invariant.0.of lines r) _ r.count_is (omega (arith, length-take c.args.count c.args.close.now))
    (omega arith)
