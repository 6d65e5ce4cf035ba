use Rattle.std.proofs.Common.{[], ◌∷◌}
use Rattle.laws.proofs.Signed.{stored}
use Rattle.laws.proofs.Lists.{filled}
use Rattle.file.specs.Entry.{held_numbers}
use Rattle.file.proofs.entry.read_held.Goals as goal

pub returns : goal.returns
unfolding held_numbers
returns c =
    rw (
      stored c.plain.result c.plain.type_inv c.plain.ensures,
      stored c.signed8.result c.signed8.type_inv c.signed8.ensures,
    ) (filled (_ ∷ _ ∷ []) c.args.out.now c.requires.places)
