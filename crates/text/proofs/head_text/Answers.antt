use Rattle.text.specs.Bytes.{bytes}
use Rattle.text.specs.Report.{head_text}
use Rattle.text.proofs.Puts.{◌then◌, and_word}
use Rattle.text.proofs.head_text.Goals as goal

pub returns : goal.returns
unfolding bytes head_text
returns c =
    let marks = and_word c.put_after-at.ensures (bytes "\nMARKS ") _ c.put_after-at-2.ensures in
    let lines = and_word marks (bytes " LINES ") _ c.put_after-at-3.ensures in
    let pieces = and_word lines (bytes " PIECES ") _ c.put_after-at-4.ensures in
    let loops = and_word pieces (bytes " LOOPS ") _ c.put_after-at-5.ensures in
    loops then c.put_byte.ensures
