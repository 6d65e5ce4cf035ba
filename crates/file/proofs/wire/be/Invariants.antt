use Rattle.std.proofs.Common.{◌≡◌, ◌<◌, ◌^◌}
use Rattle.file.specs.Wire.{be}
use Rattle.file.proofs.wire.be.Given as goal

abbrev pub invariant-loop-byte : goal.invariant-loop-byte
invariant-loop-byte g l = (l.number ≡ be l.byte-index l.s l.a) × (l.number < 256 ^ l.byte-index)
