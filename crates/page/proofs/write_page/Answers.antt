use Rattle.page.specs.Page.{page_of}
use Rattle.page.proofs.write_page.Goals as goal

pub returns : goal.returns
unfolding page_of
returns c = c.write.ensures
