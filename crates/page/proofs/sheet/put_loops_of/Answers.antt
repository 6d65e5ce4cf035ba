use Rattle.page.proofs.Book.{loops_put}
use Rattle.page.proofs.sheet.put_loops_of.Goals as goal

pub returns : goal.returns
returns c = loops_put _ _ c.requires c.find_loops-found.ensures.found c.head_text-at.ensures c.put_loops.ensures
