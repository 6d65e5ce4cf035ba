use Rattle.text.proofs.Puts.{◌then◌}
use Rattle.page.specs.Page.{book_page}
use Rattle.page.proofs.sheet.put_book.Goals as goal

pub returns : goal.returns
unfolding book_page
returns c = c.put_loops_of-at.ensures then c.put_unchecked.ensures
