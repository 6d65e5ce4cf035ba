use Rattle.std.proofs.Common.{◌^◌, ◌≡◌}
use Rattle.divisions.specs.Quotient.{Coarse, whole_of}
use Rattle.divisions.proofs.quotient.next_bits.Given as goal

abbrev pub invariant-loop-doublings : goal.invariant-loop-doublings
invariant-loop-doublings g l = record {
  coarse : Coarse (2 ^ l.doublings) l.d l.divided.quotient l.divided.remainder;
  same : whole_of (2 ^ l.doublings) l.d l.divided.quotient l.divided.remainder
      ≡ whole_of (2 ^ g.row.BITS) l.d l.fn.above.quotient l.fn.above.remainder;
}
