use Rattle.start.proofs.Zeros.{bare}
use Rattle.start.proofs.start_heights.Goals as goal

pub place_and_raise-requires-clause-bare : goal.place_and_raise-requires-clause-bare
place_and_raise-requires-clause-bare c = bare c.args.b 256 c.requires.held.few
