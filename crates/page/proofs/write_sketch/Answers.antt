use Rattle.page.specs.Sketch.{sketch_page_of}
use Rattle.page.proofs.write_sketch.Goals as goal

pub returns : goal.returns
unfolding sketch_page_of
returns c = c.write.ensures
