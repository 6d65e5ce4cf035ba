use Rattle.std.proofs.Common.{take}
use Rattle.text.specs.Put.{Put}
use Rattle.text.proofs.put.Given as goal

-- the bytes before this one are put
abbrev pub invariant-loop-byte : goal.invariant-loop-byte
invariant-loop-byte l = Put l.initial.out l.out l.initial.next l.next (take l.byte-index l.s)
