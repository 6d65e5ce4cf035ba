use Rattle.start.proofs.Zeros.{blank}
use Rattle.start.proofs.raise.Goals as goal

pub raise_in-requires-clause-blank : goal.raise_in-requires-clause-blank
raise_in-requires-clause-blank c = blank c.args.b 256 c.requires.known.held.few
