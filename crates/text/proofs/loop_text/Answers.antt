use mir.Facts.{to_z-of_z}
use Rattle.text.specs.Bytes.{bytes}
use Rattle.text.specs.Report.{loop_text}
use Rattle.text.proofs.Puts.{◌then◌, and_word}
use Rattle.text.proofs.loop_text.Goals as goal

pub returns : goal.returns
unfolding bytes loop_text
returns c =
    let length = and_word c.put_after-at.ensures (bytes " LENGTH ") _ c.put_after-at-2.ensures in
    let misclosure = and_word length (bytes " MISCLOSURE ") _ c.put_after-at-3.ensures in
    rw (← (to_z-of_z c.ranges.length), ← (to_z-of_z c.ranges.misclosure), ← (to_z-of_z c.ranges.verdict))
    (misclosure then c.put_verdict-at.ensures then c.put_listed-at.ensures then c.put_byte.ensures)
