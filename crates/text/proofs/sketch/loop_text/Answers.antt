use mir.Facts.{to_z-of_z}
use Rattle.text.specs.Bytes.{bytes}
use Rattle.text.specs.Sketch.{self_closing_text}
use Rattle.text.proofs.Puts.{◌then◌}
use Rattle.text.proofs.sketch.loop_text.Goals as goal

pub returns : goal.returns
unfolding bytes self_closing_text
returns c =
    rw (← (to_z-of_z c.ranges.mark), ← (to_z-of_z c.ranges.length), ← (to_z-of_z c.ranges.misclosure))
    (c.put_after-at.ensures then c.put_measured.ensures)
