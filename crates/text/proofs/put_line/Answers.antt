use mir.Facts.{to_z-of_z}
use Rattle.text.specs.Bytes.{bytes}
use Rattle.text.proofs.Lists.{listed_one}
use Rattle.text.proofs.put_line.Goals as goal

pub returns : goal.returns
unfolding bytes
returns c = rw (listed_one c.args.line, ← (to_z-of_z c.ranges.line)) c.put_after.ensures
