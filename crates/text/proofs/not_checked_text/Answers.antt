use Rattle.text.specs.Bytes.{bytes}
use Rattle.text.specs.Report.{not_checked_text}
use Rattle.text.proofs.Puts.{◌then◌}
use Rattle.text.proofs.not_checked_text.Goals as goal

pub returns : goal.returns
unfolding bytes not_checked_text
returns c = c.put_after-at.ensures then c.put_byte-at.ensures then c.put_listed-at.ensures then c.put_byte.ensures
