use Rattle.std.proofs.Common.{rules}
use Rattle.page.specs.Entries.{entry_line}
use Rattle.page.proofs.sketch.put_entry.Goals as goal

pub returns-in-Link : goal.returns-in-Link
unfolding entry_line
returns-in-Link c = rw c.in-Link.is (search rules)

pub returns-in-Spur : goal.returns-in-Spur
unfolding entry_line
returns-in-Spur c = rw c.in-Spur.is (search rules)

pub returns-in-Loop : goal.returns-in-Loop
unfolding entry_line
returns-in-Loop c = rw c.in-Loop.is (search rules)
