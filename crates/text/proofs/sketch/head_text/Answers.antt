use Rattle.text.specs.Bytes.{bytes}
use Rattle.text.specs.Sketch.{sketch_head_text}
use Rattle.text.proofs.Puts.{◌then◌, and_word}
use Rattle.text.proofs.sketch.head_text.Goals as goal

pub returns : goal.returns
unfolding bytes sketch_head_text
returns c =
    let lines = and_word c.put_after-at.ensures (bytes " LINES ") _ c.put_after-at-2.ensures in
    let links = and_word lines (bytes " LINKS ") _ c.put_after-at-3.ensures in
    let spurs = and_word links (bytes " SPURS ") _ c.put_after-at-4.ensures in
    let loops = and_word spurs (bytes " LOOPS ") _ c.put_after-at-5.ensures in
    loops then c.put_byte.ensures
