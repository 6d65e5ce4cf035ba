use Rattle.std.proofs.lemmas.List.{take_min}
use Rattle.cases.proofs.case.name.Goals as goal

pub returns : goal.returns
returns c = rw c.min-n.ensures (take_min 48 c.args.case.now)
