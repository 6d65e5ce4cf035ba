use Rattle.std.proofs.Common.{rules, ◌∙◌}
use Rattle.page.proofs.Filed.{read_filed}
use Rattle.page.proofs.read_book.Goals as goal

pub returns : goal.returns
returns c = read_filed _ _ _ (search rules) (search rules) _ _ _ c.read.ensures
