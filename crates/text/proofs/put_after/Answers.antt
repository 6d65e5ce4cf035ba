use Rattle.text.proofs.Puts.{◌then◌}
use Rattle.text.proofs.put_after.Goals as goal

pub returns : goal.returns
returns g c = c.put-at.ensures then c.put.ensures
