use Rattle.std.proofs.Common.{pos, ◌∙◌, ap, arith}
use mir.Syntax.{w64}
use mir.Facts.{to_z_pos}
use Rattle.file.proofs.BigEndian.{four_bytes}
use Rattle.file.proofs.wire.plain.Goals as goal

pub overflow_cast-result : goal.overflow_cast-result
overflow_cast-result g c = let low = four_bytes c.requires.few c.be.ensures.small in record { sfits = omega (arith, low) }

pub returns : goal.returns
returns g c = let low = four_bytes c.requires.few c.be.ensures.small in to_z_pos w64 (omega (arith, low)) ∙ ap pos c.be.ensures.value
