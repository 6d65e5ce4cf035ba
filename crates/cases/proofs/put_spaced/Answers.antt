use Rattle.text.specs.Bytes.{bytes}
use Rattle.text.proofs.Puts.{◌then◌}
use Rattle.cases.specs.Cases.{spaced}
use Rattle.cases.proofs.put_spaced.Goals as goal

pub returns : goal.returns
unfolding spaced bytes
returns c = c.put-at.ensures then c.put_number.ensures
