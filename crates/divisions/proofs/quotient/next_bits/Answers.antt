use Rattle.std.proofs.Common.{arith, ◌^◌, ◌*◌, ◌-◌, ◌%◌, ◌≡◌, ◌∙◌}
use Rattle.divisions.proofs.Doublings.{few, shifted, bit_next, bit_taken, same_taken}
use Rattle.divisions.proofs.quotient.next_bits.Goals as goal

pub overflow_shl-d : goal.overflow_shl-d
overflow_shl-d g c =
    omega (arith, few g.row.BITS (c.loop-doublings.doublings - 1) c.args.d (omega arith) c.requires.doubled c.requires.coarse.some)

pub next_bit-divided-requires : goal.next_bit-divided-requires
next_bit-divided-requires g c =
    let k = c.loop-doublings.doublings in
    let e : c.args.d * 2 ^ (k - 1) % 2 ^ 64 ≡ 2 ^ (k - 1) * c.args.d =
    shifted g.row.BITS (k - 1) c.args.d (omega arith) c.requires.doubled in
    bit_next k c.args.d _ _ _ c.loop-doublings-test.true e c.loop-doublings.invariant.coarse

pub loop-doublings-preserved : goal.loop-doublings-preserved
loop-doublings-preserved g c =
    let k = c.loop-doublings.doublings in
    let e : c.args.d * 2 ^ (k - 1) % 2 ^ 64 ≡ 2 ^ (k - 1) * c.args.d =
    shifted g.row.BITS (k - 1) c.args.d (omega arith) c.requires.doubled in
    let i = c.loop-doublings.invariant in
    let b = c.next_bit-divided.ensures in
    record {
      coarse = bit_taken k c.args.d _ _ _ c.loop-doublings-test.true e i.coarse _ _ b;
      same = same_taken k c.args.d _ _ _ c.loop-doublings-test.true e i.coarse _ _ b ∙ i.same;
    }
