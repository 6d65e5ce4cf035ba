use mir.Facts.{to_z-of_z}
use Rattle.text.specs.Bytes.{bytes}
use Rattle.text.specs.Sketch.{measured_text}
use Rattle.text.proofs.Puts.{◌then◌, and_word}
use Rattle.text.proofs.sketch.put_measured.Goals as goal

pub returns : goal.returns
unfolding bytes measured_text
returns c =
    let difference = and_word c.put_after-at.ensures c.args.word.now _ c.put_after-at-2.ensures in
    rw (← (to_z-of_z c.ranges.length), ← (to_z-of_z c.ranges.difference))
    (difference then c.put_byte-at.ensures then c.put_listed-at.ensures then c.put_byte.ensures)
