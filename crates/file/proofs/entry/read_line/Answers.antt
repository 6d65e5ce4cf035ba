use Rattle.std.proofs.Common.{[], ◌∷◌}
use mir.Facts.{to_z-of_z}
use Rattle.laws.proofs.Signed.{stored}
use Rattle.laws.proofs.Lists.{filled}
use Rattle.file.specs.Entry.{line_numbers}
use Rattle.file.proofs.entry.read_line.Goals as goal

pub returns : goal.returns
unfolding line_numbers
returns c =
    rw (
      stored c.plain.result c.plain.type_inv c.plain.ensures,
      stored c.plain-2.result c.plain-2.type_inv c.plain-2.ensures,
      stored c.signed4.result c.signed4.type_inv c.signed4.ensures,
      stored c.plain-3.result c.plain-3.type_inv c.plain-3.ensures,
      to_z-of_z c.ranges.standing,
      to_z-of_z c.ranges.class,
    ) (filled (_ ∷ _ ∷ _ ∷ _ ∷ _ ∷ _ ∷ []) c.args.out.now c.requires.places)
