use mir.Facts.{to_z-of_z}
use Rattle.text.specs.Bytes.{bytes}
use Rattle.text.specs.Sketch.{link_text}
use Rattle.text.proofs.Puts.{◌then◌, and_word}
use Rattle.text.proofs.sketch.link_text.Goals as goal

pub returns : goal.returns
unfolding bytes link_text
returns c =
    let last = and_word c.put_after-at.ensures (bytes " ") _ c.put_after-at-2.ensures in
    rw (← (to_z-of_z c.ranges.first), ← (to_z-of_z c.ranges.last), ← (to_z-of_z c.ranges.length), ← (to_z-of_z c.ranges.difference))
    (last then c.put_measured.ensures)
