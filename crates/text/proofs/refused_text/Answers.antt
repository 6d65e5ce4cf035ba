use Rattle.text.specs.Bytes.{bytes}
use Rattle.text.specs.Report.{refused_text}
use Rattle.text.proofs.Puts.{◌then◌, and_word}
use Rattle.text.proofs.refused_text.Goals as goal

pub returns : goal.returns
unfolding bytes refused_text
returns c = and_word c.put_after-at.ensures (bytes " AT ") _ c.put_after-at-2.ensures then c.put_byte.ensures
