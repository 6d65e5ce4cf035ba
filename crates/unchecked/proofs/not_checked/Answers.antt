-- `not_checked` writes the definition's list, once the checked lines are marked. Assumes nothing.
use Rattle.unchecked.proofs.Listing.{open_list}
use Rattle.unchecked.proofs.not_checked.Goals as goal

pub returns : goal.returns
returns c = λ n order lines li ho. open_list _ c.requires.closes.few li ho c.check_lines.ensures c.list_open.ensures
